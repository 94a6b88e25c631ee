-- Facts about every accepted change.
use Rattle.std.specs.Prelude.{◌≡◌, ℕ, ◌+◌, ◌≢◌, List, length, Some, None}
use Rattle.std.specs.List.{AllByRecursion}
use Rattle.lq_volume.specs.declared.change.Change.{Change}
use Rattle.lq_volume.specs.State.{State, IsVolume, record_at}
use Rattle.lq_volume.specs.Change.{after, node_of, clobbered, touched_by, IsLawful}
use Rattle.lq_volume.specs.Book.{after_all}

-- the state after an accepted change is again a tree
abbrev pub ChangesKeepTrees : Type 0
ChangesKeepTrees = (s : State) (c : Change) → IsVolume s → IsLawful s c → IsVolume (after s c)

-- the node that a move removes is another one, and is gone afterwards
abbrev pub ClobberedGo : Type 0
ClobberedGo = (s : State) (c : Change) (n : ℕ) → IsVolume s → clobbered s c ≡ Some n
    → (n ≢ node_of s c) × (record_at (after s c) n ≡ None)

-- a node that a change doesn't touch keeps its record
abbrev pub UntouchedStay : Type 0
UntouchedStay = (s : State) (c : Change) (n : ℕ) → IsVolume s → IsLawful s c
    → AllByRecursion (λ node. n ≢ node) (touched_by s c) → record_at s n ≡ record_at (after s c) n

-- each change counts one: the number after a list of changes is greater by its length
abbrev pub ChangesCount : Type 0
ChangesCount = (s : State) (cs : List Change) → (after_all s cs).number ≡ s.number + length cs
