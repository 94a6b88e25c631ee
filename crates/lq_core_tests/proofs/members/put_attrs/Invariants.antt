use Rattle.std.proofs.Common.{◌≡◌, map, take}
use Rattle.serde_json.specs.View.{view}
use Rattle.lq_script_desk.specs.Reply.{attr_data}
use Rattle.lq_core_tests.proofs.members.put_attrs.Given as goal

-- the attributes so far
abbrev pub invariant-loop-attr : goal.invariant-loop-attr
invariant-loop-attr l = map view l.items.items ≡ map attr_data (take l.attr-index l.attrs)
