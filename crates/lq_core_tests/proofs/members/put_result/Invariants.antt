use Rattle.std.proofs.Common.{◌≡◌, map, take}
use Rattle.serde_json.specs.View.{view}
use Rattle.lq_script_desk.specs.Reply.{entry_data}
use Rattle.lq_core_tests.proofs.members.put_result.Given as goal

-- the entries so far
abbrev pub invariant-loop-entry : goal.invariant-loop-entry
invariant-loop-entry l = map view l.items.items ≡ map entry_data (take l.entry-index l.entries)
