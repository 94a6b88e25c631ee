-- A book: an initial state, and the changes accepted since, in order.
use Rattle.std.specs.Prelude.{◌≡◌, ℕ, ◌+◌, ◌-◌, List, [], ◌∷◌, ◌++◌, length, take, drop}
use Rattle.std.specs.List.{fold}
use Rattle.lq_volume.specs.declared.change.Change.{Change}
use Rattle.lq_volume.specs.State.{State}
use Rattle.lq_volume.specs.Change.{after, IsLawful}

-- an initial state, and the changes since
pub record Book : Type 0 where
  pub start : State
  pub changes : List Change

-- the state after these changes, made one after another
abbrev pub after_all : State → List Change → State
after_all s cs = fold after s cs

-- each change is lawful after those before it
abbrev pub AreLawful : State → List Change → Type 0
AreLawful s [] = Unit {0}
AreLawful s (c ∷ cs) = IsLawful s c × AreLawful (after s c) cs

-- each change of the book is lawful in the state that it meets
abbrev pub IsBook : Book → Type 0
IsBook b = AreLawful b.start b.changes

-- the state that the book leads to, and its number
abbrev pub state_of : Book → State
state_of b = after_all b.start b.changes

-- the number of the book's last change
abbrev pub number_of : Book → ℕ
number_of b = b.start.number + length b.changes

-- the state whose number is n
abbrev pub state_at : Book → ℕ → State
state_at b n = after_all b.start (take (n - b.start.number) b.changes)

-- the changes with numbers above m, up to n
abbrev pub changes_between : Book → ℕ → ℕ → List Change
changes_between b m n = take (n - m) (drop (m - b.start.number) b.changes)

-- the book with more changes added at its end
abbrev pub grown : Book → List Change → Book
grown b changes = record { start = b.start; changes = b.changes ++ changes }

-- both books have the same initial state, and the changes of the second are a prefix of the first's
abbrev pub Extends : Book → Book → Type 0
Extends c b = (more : List Change) × (c ≡ grown b more)
