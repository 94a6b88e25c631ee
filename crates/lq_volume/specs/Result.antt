-- The result of a query: the entries of the records that match its predicate, by rising node.
use Rattle.std.specs.Prelude.{ℕ, pos, List, Option, Some, None, option_and_then, map, filter, codes, if◌then◌else◌}
use Rattle.std.specs.Option.{option_map}
use Rattle.std.specs.Str.{bytes_eq}
use Rattle.lq_predicate.specs.Query.{Query}
use Rattle.lq_value.specs.PlainValue.{PlainValue, Words, Number, held_in}
use Rattle.lq_predicate.specs.Truth.{truth}
use Rattle.lq_value.specs.declared.entry.Entry.{Entry}
use Rattle.lq_volume_entries.specs.Attributes.{value_of}
pub use Rattle.lq_volume_entries.specs.Record.{entry_of}
use Rattle.lq_volume.specs.State.{State, Record, record_at}

-- what a record shows under each name
abbrev pub shown : Record → List ℕ → Option PlainValue
shown r attr =
    if bytes_eq attr (codes "name") then Some (Words r.name)
    else if bytes_eq attr (codes "size") then Some (Number (pos r.size))
    else if bytes_eq attr (codes "last_modified") then Some (Number r.time)
    else option_map held_in (value_of r.attrs attr)

-- the entries of the records that match the predicate, by rising node
abbrev pub result_of : Query → State → List Entry
result_of q s = map entry_of (filter (λ e. truth q (shown e.1)) s.records)

-- the entry of one record, if it matches the predicate
abbrev pub entry_if : Query → ℕ × Record → Option Entry
entry_if q e = if truth q (shown e.1) then Some (entry_of e) else None

-- the entry in the result with this node
abbrev pub match_at : Query → State → ℕ → Option Entry
match_at q s node = option_and_then (λ r. entry_if q (node, r)) (record_at s node)
