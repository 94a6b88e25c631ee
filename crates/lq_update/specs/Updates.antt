-- The messages of a query over a book of changes.
use Rattle.std.specs.Prelude.{◌≡◌, ℕ, ◌+◌, List, [], ◌∷◌, ◌++◌, length, true, ◌==◌, if◌then◌else◌}
use Rattle.lq_value.specs.declared.entry.Entry.{Entry}
use Rattle.lq_predicate.specs.Query.{Query}
use Rattle.lq_volume.specs.declared.change.Change.{Change}
use Rattle.lq_volume.specs.State.{State}
use Rattle.lq_volume.specs.Change.{after}
use Rattle.lq_volume.specs.Book.{Book, state_at, changes_between}
use Rattle.lq_update.specs.declared.message.Opcode.{Opcode}
use Rattle.lq_update.specs.declared.message.Message.{Message}
use Rattle.lq_update.specs.declared.open_options.Flags.{Flags}
use Rattle.lq_update.specs.Diff.{diff}
use Rattle.lq_update.specs.Values.{values_told}

-- the messages of one change, numbered from `seq` on, the final one marked as the last
abbrev pub numbered : ℕ → ℕ → List (Opcode × Entry) → List Message
numbered seq change [] = []
numbered seq change (x ∷ xs) =
    record {
      seq = seq;
      change = change;
      last = length xs == 0;
      op = x.0;
      dir = x.1.dir;
      name = x.1.name;
      node = x.1.node;
    }
    ∷ numbered (seq + 1) change xs

-- what a change tells: what left, moved and came, and then the value that was written within
abbrev pub told_by : Query → Flags → State → Change → List (Opcode × Entry)
told_by q flags s c =
    diff q flags.moved s (after s c) ++ (if flags.values then values_told q s c else [])

-- the messages of a lawful change to a state
abbrev pub step_of : Query → Flags → State → Change → ℕ → List Message
step_of q flags s c seq = numbered seq (s.number + 1) (told_by q flags s c)

-- the messages of changes made one after another, numbered from `seq` on
abbrev pub updates_from : Query → Flags → State → List Change → ℕ → List Message
updates_from q flags s [] seq = []
updates_from q flags s (c ∷ cs) seq =
    step_of q flags s c seq
    ++ updates_from q flags (after s c) cs (seq + length (step_of q flags s c seq))

-- the update list of a query, from number m to number n of a book
abbrev pub updates_of : Query → Flags → Book → ℕ → ℕ → List Message
updates_of q flags b m n = updates_from q flags (state_at b m) (changes_between b m n) 1

-- no message yet, or the final one was the last of its change
abbrev pub IsSettled : List Message → Type 0
IsSettled [] = Unit {0}
IsSettled (m ∷ []) = m.last ≡ true
IsSettled (m ∷ n ∷ ms) = IsSettled (n ∷ ms)
