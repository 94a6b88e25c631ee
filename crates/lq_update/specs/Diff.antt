-- What leaves and enters a query's result from one state to another.
use Rattle.std.specs.Prelude.{ℕ, List, ◌++◌, Bool, true, false, not, ◌&&◌, ◌==◌, map, filter}
use Rattle.std.specs.List.{list_any, find}
use Rattle.std.specs.Option.{option_map_or}
use Rattle.std.specs.Str.{bytes_eq}
use Rattle.lq_value.specs.declared.entry.Entry.{Entry}
use Rattle.lq_predicate.specs.Query.{Query}
use Rattle.lq_volume.specs.State.{State}
use Rattle.lq_volume.specs.Result.{result_of}
use Rattle.lq_update.specs.declared.message.Opcode.{Opcode}
use Rattle.lq_update.specs.declared.message.Opcode.TheVariants.{Created, Removed, Moved}

-- whether both entries have the same folder, name and node
abbrev pub same_entry : Entry → Entry → Bool
same_entry a b = (a.dir == b.dir) && bytes_eq a.name b.name && (a.node == b.node)

-- the entries that others lack
abbrev pub missing : List Entry → List Entry → List Entry
missing entries others = filter (λ e. not (list_any (same_entry e) others)) entries

-- whether an entry has this node
abbrev pub has_node : ℕ → List Entry → Bool
has_node node entries = list_any (λ e. e.node == node) entries

-- without moves: a removed message for each entry that left, then a created one for each that came
abbrev pub without_moves : List Entry → List Entry → List (Opcode × Entry)
without_moves gone come = map (λ e. (Removed, e)) gone ++ map (λ e. (Created, e)) come

-- whether these are a removed and a created message of one node
abbrev pub is_move : Opcode × Entry → Opcode × Entry → Bool
is_move (Removed, e) (Created, f) = e.node == f.node
is_move m n = false

-- a created message as a moved one, from the place in the removed message of its node, if these
-- messages have one; each other message as it is
abbrev pub as_moved : List (Opcode × Entry) → Opcode × Entry → Opcode × Entry
as_moved ms n =
    option_map_or (λ m. (Moved m.1.dir m.1.name, n.1)) (find (λ m. is_move m n) ms) n

-- with moves: each removed and created message of one node becomes one moved message
abbrev pub with_moves : List (Opcode × Entry) → List (Opcode × Entry)
with_moves ms = map (as_moved ms) (filter (λ m. not (list_any (is_move m) ms)) ms)

-- the messages for the entries that left and those that came
abbrev pub messages_of : Bool → List Entry → List Entry → List (Opcode × Entry)
messages_of false gone come = without_moves gone come
messages_of true gone come = with_moves (without_moves gone come)

-- What left the result and what came into it: the removed entries, then the moved and the created
-- ones, each by rising node. A change brings at most one entry into a result, so the messages of a
-- change stand in the order removed, moved, created.
abbrev pub diff : Query → Bool → State → State → List (Opcode × Entry)
diff q moved s t =
    messages_of moved (missing (result_of q s) (result_of q t))
    (missing (result_of q t) (result_of q s))
