-- The response to a line: the core's answer to its event, the answer of a look at the volume, a
-- rebuilt result, or a refusal.
use Rattle.std.specs.Prelude.{ℕ, List, Bool}
use Rattle.lq_value.specs.declared.entry.Entry.{Entry}
use Rattle.lq_value.specs.declared.refusal.Refusal.{Refusal}
use Rattle.lq_volume.specs.State.{Record}
use Rattle.lq_desk_world.specs.Events.{Answer}

pub data Response : Type 0 where
  Answers : (slot : ℕ) (answer : Answer) → Response
  Refuses : (refusal : Refusal) → Response
  Found : (node : ℕ) → Response
  Listed : (node : ℕ) (entry : Record) → Response
  Fetched : (at : ℕ) (result : List Entry) → Response
  Rebuilt : (change : ℕ) (result : List Entry) (settled : Bool) → Response
