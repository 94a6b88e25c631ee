-- What is written for a whole script: the request of each line, its answer in the world, and the
-- answer's text.
use Rattle.std.specs.Prelude.{ℕ, List, []}
use Rattle.lq_value.specs.declared.refusal.Refusal.TheVariants.{LongLine}
use Rattle.lq_volume.specs.State.{State, empty_state}
use Rattle.lq_desk_world.specs.World.{World, first_world}
use Rattle.lq_script_lines.specs.Lines.{Rules}
use Rattle.lq_script_lines.specs.Output.{output_of}
use Rattle.lq_script_request.specs.Request.{request_in}
use Rattle.lq_script_desk.specs.Folds.{no_folds}
use Rattle.lq_script_desk.specs.Session.{Session, session_with}
use Rattle.lq_script_desk.specs.Response.{Refuses}
use Rattle.lq_script_desk.specs.Answered.{line_outcome}
use Rattle.lq_script_desk.specs.Reply.{reply_text}

-- how lines are answered: by the world's turns, its volume and the folds
abbrev pub world_rules : Rules Session
world_rules = record {
  reply = λ s line. reply_text (line_outcome s (request_in line)).0;
  after = λ s line. (line_outcome s (request_in line)).1;
  long = reply_text (Refuses LongLine);
}

-- the first world over a volume
abbrev pub world_over : State → World
world_over start = first_world (record { start = start; changes = [] })

-- the first session over a volume: no slot has a fold
abbrev pub session_over : State → Session
session_over start = session_with (world_over start) no_folds

-- a script begins with the root alone, and its volume accepts 1,000,000,000,000 changes
abbrev pub script_world : World
script_world = world_over (empty_state 1000000000000)

-- the initial session of a script: no slot has a fold
abbrev pub script_session : Session
script_session = session_over (empty_state 1000000000000)

-- the output of a script
abbrev pub out_of : List ℕ → List ℕ
out_of bytes = output_of world_rules script_session bytes
