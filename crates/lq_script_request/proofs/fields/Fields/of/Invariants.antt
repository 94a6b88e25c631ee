use Rattle.std.proofs.Common.{◌≡◌, List, ◌++◌}
use Rattle.std.specs.List.Sorted.{IsStrictlySortedBy}
use Rattle.std.specs.Map.{keys_of}
use Rattle.std.specs.String.{string_cmp}
use Rattle.serde_json.specs.Data.{object}
use Rattle.serde_json.specs.View.{members_view, view}
use Rattle.serde_json.proofs.Views.{Entry}
use Rattle.lq_script_request.specs.Fields.{Show}
use Rattle.lq_script_request.proofs.fields.Fields.of.Given as goal

-- the fields show the members so far
abbrev pub invariant-loop-key : goal.invariant-loop-key
invariant-loop-key l =
    (done : List Entry) × IsStrictlySortedBy string_cmp (keys_of (done ++ l.key-iterator))
    × (object (members_view (done ++ l.key-iterator)) ≡ view l.value)
    × Show l.fields (object (members_view done)) × (l.fields.text.now ≡ l.text)
