-- Folding messages into a result, which is a set of triples: here a list by rising node.
use Rattle.std.specs.Prelude.{ℕ, ◌+◌, ◌<◌, List, [], ◌∷◌, Bool, true, not, ◌&&◌, ◌==◌, nat_le, nat_lt, filter, if◌then◌else◌}
use Rattle.std.specs.List.{list_any, AllByRecursion}
use Rattle.lq_value.specs.declared.entry.Entry.{Entry}
use Rattle.lq_value.specs.declared.refusal.Refusal.{Refusal}
use Rattle.lq_value.specs.declared.refusal.Refusal.TheVariants.{OutOfStep, Mismatch}
use Rattle.lq_update.specs.declared.message.Opcode.{Opcode}
use Rattle.lq_update.specs.declared.message.Opcode.TheVariants.{Created, Removed, Moved, ValueChanged}
use Rattle.lq_update.specs.declared.message.Message.{Message}
use Rattle.lq_update.specs.Diff.{same_entry, has_node}

-- the nodes rise strictly, so none occurs twice
abbrev pub EntriesRise : List Entry → Type 0
EntriesRise [] = Unit {0}
EntriesRise (e ∷ es) = AllByRecursion (λ f. e.node < f.node) es × EntriesRise es

-- the set without a triple
abbrev pub taken_out : Entry → List Entry → List Entry
taken_out e entries = filter (λ f. not (same_entry e f)) entries

-- the set with one more triple, before the first one of a higher node
abbrev pub put_in : Entry → List Entry → List Entry
put_in e [] = e ∷ []
put_in e (f ∷ fs) = if nat_lt e.node f.node then e ∷ f ∷ fs else f ∷ put_in e fs

-- whether the triple is in the set
abbrev pub has_entry : Entry → List Entry → Bool
has_entry e entries = list_any (same_entry e) entries

-- the triple that a node had at its old place
abbrev pub old_entry : ℕ → List ℕ → Entry → Entry
old_entry dir name e = record { dir = dir; name = name; node = e.node }

-- a removed message takes its triple out, a created one puts it in, a moved one does both, and one
-- of a value leaves the set as it is
abbrev pub folded_by : Opcode → Entry → List Entry → List Entry
folded_by Created e entries = put_in e entries
folded_by Removed e entries = taken_out e entries
folded_by (Moved dir name) e entries = put_in e (taken_out (old_entry dir name e) entries)
folded_by (ValueChanged attribute) e entries = entries

-- what a message takes out is in the set, and so is the triple whose value changed; the node of a
-- triple that is only put in isn't
abbrev pub fits_result : Opcode → Entry → List Entry → Bool
fits_result Created e entries = not (has_node e.node entries)
fits_result Removed e entries = has_entry e entries
fits_result (Moved dir name) e entries = has_entry (old_entry dir name e) entries
fits_result (ValueChanged attribute) e entries = has_entry e entries

-- a message's triple, with the new place if it moved
abbrev pub message_entry : Message → Entry
message_entry m = record { dir = m.dir; name = m.name; node = m.node }

-- the set after a message
abbrev pub folded_one : List Entry → Message → List Entry
folded_one entries m = folded_by m.op (message_entry m) entries

-- whether a message fits the set
abbrev pub fits_in : List Entry → Message → Bool
fits_in entries m = fits_result m.op (message_entry m) entries

-- the set after messages, in order
abbrev pub folded : List Entry → List Message → List Entry
folded entries [] = entries
folded entries (m ∷ ms) = folded (folded_one entries m) ms

-- whether the final message was the last of its change; with no message, what was given
abbrev pub settled_after : Bool → List Message → Bool
settled_after settled [] = settled
settled_after settled (m ∷ ms) = settled_after m.last ms

-- whether the final message was the last of its change; true of no message
abbrev pub ends_settled : List Message → Bool
ends_settled ms = settled_after true ms

-- the change of the final message; with no message, the number given
abbrev pub last_change : ℕ → List Message → ℕ
last_change at [] = at
last_change at (m ∷ ms) = last_change m.change ms

-- The state of a fold: how many messages it has taken, whether the latest one was the last of its
-- change, the number of that change, and the entries by rising node.
pub record Folding : Type 0 where
  pub seq : ℕ
  pub change : ℕ
  pub settled : Bool
  pub entries : List Entry

-- the fold before any message, from an opening's result
abbrev pub opened_at : ℕ → List Entry → Folding
opened_at at entries = record { seq = 0; change = at; settled = true; entries = entries }

-- the refusals of a message: it isn't the next one, its change may not come now, or it doesn't fit
abbrev pub fold_refusals : Folding → Message → List (Bool × Refusal)
fold_refusals f m =
    (not (m.seq == f.seq + 1), OutOfStep)
    ∷ (f.settled && nat_le m.change f.change, OutOfStep)
    ∷ (not f.settled && not (m.change == f.change), OutOfStep)
    ∷ (not (fits_in f.entries m), Mismatch)
    ∷ []

-- the fold after one more message
abbrev pub folding_after : Folding → Message → Folding
folding_after f m =
    record { seq = m.seq; change = m.change; settled = m.last; entries = folded_one f.entries m }

-- the fold after many more messages
abbrev pub folding_after_all : Folding → List Message → Folding
folding_after_all f [] = f
folding_after_all f (m ∷ ms) = folding_after_all (folding_after f m) ms
