-- Lists ordered by a number of each item. No public clause names them.
use Rattle.std.specs.Prelude.{◌<◌, ℕ, List, [], ◌∷◌, nat_le, if◌then◌else◌}
use Rattle.std.specs.Borrow.{Bor}
use Rattle.std.specs.List.{AllByRecursion}
use Rattle.lq_volume_entries.specs.Record.{Record}

-- a list with one more item, before the first item whose number is at least as great
abbrev pub insert_by : {X : Type 0} → (X → ℕ) → X → List X → List X
insert_by number x [] = x ∷ []
insert_by number x (y ∷ ys) =
    if nat_le (number x) (number y) then x ∷ y ∷ ys else y ∷ insert_by number x ys

-- the items of a list in order
abbrev pub ordered_by : {X : Type 0} → (X → ℕ) → List X → List X
ordered_by number [] = []
ordered_by number (x ∷ xs) = insert_by number x (ordered_by number xs)

-- the numbers of the items rise
abbrev pub RisesBy : {X : Type 0} → (X → ℕ) → List X → Type 0
RisesBy number [] = Unit {0}
RisesBy number (x ∷ xs) = AllByRecursion (λ y. number x < number y) xs × RisesBy number xs

-- records by rising node
abbrev pub by_node : List (ℕ × Record) → List (ℕ × Record)
by_node es = ordered_by (λ e. e.0) es

-- a node with the record that a reference shows
abbrev pub shown_pair : ℕ × Bor Record → ℕ × Record
shown_pair p = (p.0, p.1.now)
