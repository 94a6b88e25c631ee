-- The messages for one node, by what matched there before and after.
use Rattle.std.specs.Prelude.{ℕ, Option, Some, None, Bool, true, false, if◌then◌else◌}
use Rattle.std.specs.Option.{option_map, option_map_or}
use Rattle.lq_value.specs.declared.entry.Entry.{Entry}
use Rattle.lq_predicate.specs.Query.{Query}
use Rattle.lq_predicate.specs.Truth.{truth}
use Rattle.lq_volume.specs.State.{State, Record}
use Rattle.lq_volume.specs.Result.{entry_of, match_at, shown}
use Rattle.lq_update.specs.declared.message.Opcode.{Opcode}
use Rattle.lq_update.specs.declared.message.Opcode.TheVariants.{Created, Moved}
use Rattle.lq_update.specs.Diff.{same_entry}

-- whether there is a record, and it matches the query
abbrev pub is_match : Query → Option Record → Bool
is_match q seen = option_map_or (λ r. truth q (shown r)) seen false

-- the entry of a record at a node
abbrev pub entry_at : ℕ → Option Record → Option Entry
entry_at node seen = option_map (λ r. entry_of (node, r)) seen

-- the entry that left: the node matched, and now matches at another place or not at all
abbrev pub left : Option Entry → Option Entry → Option Entry
left None now = None
left (Some e) now = if option_map_or (same_entry e) now false then None else Some e

-- the entry of a node that left from one state to another
abbrev pub left_at : Query → State → State → ℕ → Option Entry
left_at q s t node = left (match_at q s node) (match_at q t node)

-- what follows the removed entries: the entry that came, or the move that replaces two messages
abbrev pub told_last : Bool → Option Entry → Option Entry → Option (Opcode × Entry)
told_last moved old None = None
told_last moved None (Some f) = Some (Created, f)
told_last false (Some e) (Some f) = Some (Created, f)
told_last true (Some e) (Some f) = Some (Moved e.dir e.name, f)

-- the removed entry, unless a move replaces it
abbrev pub told_first : Bool → Option Entry → Option Entry → Option Entry
told_first false old new = old
told_first true old None = old
told_first true old (Some f) = None
