use Rattle.std.proofs.Common.{◌≡◌, ℕ, ◌∷◌, ◌++◌, append_assoc, arith, length, map}
use Rattle.std.specs.Vec.Iter.{into_iter_items}
use Rattle.std.proofs.lemmas.List.{length-map}
use Rattle.lq_volume_entries.specs.Order.{shown_pair}
use Rattle.lq_volume_entries.specs.Record.{Record}
use Rattle.lq_volume_entries.proofs.RecordLemmas.{Entries, Rises-front}
use Rattle.lq_volume_entries.proofs.AttributeLemmas.{list-ends}
use Rattle.lq_volume_entries.proofs.PlaceLemmas.{node_in-next}
use Rattle.lq_volume_entries.proofs.entries.Entries.copy.Goals as goal

pub add-requires : goal.add-requires
add-requires c =
    let e : ℕ × Record = (c.in-Some.node, c.in-Some.record.now) in
    let left : Entries = map shown_pair (into_iter_items c.next.new.self) in
    let all : c.loop-node.copy ++ e ∷ left ≡ c.args.self.now =
    rw c.in-Some.ensures.steps.0 at c.loop-node.invariant in
    let rise = rw (← all) at (rw c.self.view_is at c.in_ok-items.ensures.rise) in
    record {
      last = Rises-front c.loop-node.copy left e rise;
      free = rw c.in_ok-copy.ensures.value (node_in-next c.loop-node.copy left e rise
          (rw all c.requires));
    }

pub loop-node-preserved : goal.loop-node-preserved
loop-node-preserved c =
    let all = rw c.in-Some.ensures.steps.0 at c.loop-node.invariant in
    rw (c.in_ok-add.ensures.ok, c.in_ok-copy.ensures.value, append_assoc) all

pub returns-clause-value : goal.returns-clause-value
returns-clause-value c =
    let it = c.loop-node.node-iterator in
    let none : length (into_iter_items it) ≡ 0 =
    omega (arith, it.rest.ok.0, c.in-None.ensures.steps.0) in
    list-ends c.loop-node.copy (map shown_pair (into_iter_items it)) c.args.self.now
    (rw (length-map (into_iter_items it) shown_pair) none) c.loop-node.invariant
