-- Numbers of changes and of seats, as lists, and which changes were made by whom.
use Rattle.std.specs.Prelude.{◌≡◌, ℕ, zero, suc, ◌+◌, ◌<◌, ◌≤◌, ◌==◌, if◌then◌else◌, Bool, true, false, List, [], ◌∷◌, length}

-- the numbers of an author's changes, where n changes of the book come before
abbrev pub changes_after : ℕ → ℕ → List ℕ → List ℕ
changes_after n author [] = []
changes_after n author (a ∷ authors) =
    if a == author then (n + 1) ∷ changes_after (n + 1) author authors
    else changes_after (n + 1) author authors

-- each of these is one of the seats 1 to n
abbrev pub AreSeats : ℕ → List ℕ → Type 0
AreSeats n [] = Unit {0}
AreSeats n (a ∷ authors) = (0 < a) × (a ≤ n) × AreSeats n authors

-- whether k is in the list
abbrev pub is_listed : ℕ → List ℕ → Bool
is_listed k [] = false
is_listed k (x ∷ xs) = if x == k then true else is_listed k xs

-- the list without k
abbrev pub without_number : ℕ → List ℕ → List ℕ
without_number k [] = []
without_number k (x ∷ xs) = if x == k then without_number k xs else x ∷ without_number k xs

-- the numbers of the changes whose authors are not in the list, where n changes come before
abbrev pub others_after : ℕ → List ℕ → List ℕ → List ℕ
others_after n enlisted [] = []
others_after n enlisted (a ∷ authors) =
    if is_listed a enlisted then others_after (n + 1) enlisted authors
    else (n + 1) ∷ others_after (n + 1) enlisted authors

-- the next k numbers after n
abbrev pub numbers_after : ℕ → ℕ → List ℕ
numbers_after n zero = []
numbers_after n (suc k) = (n + 1) ∷ numbers_after (n + 1) k

-- 1 to k, each once
abbrev pub numbers : ℕ → List ℕ
numbers k = numbers_after 0 k

-- how often x is in the list
abbrev pub times : ℕ → List ℕ → ℕ
times x [] = 0
times x (y ∷ ys) = (if y == x then 1 else 0) + times x ys

-- new has what old and own have, each as often as both together; where old has nothing, in the
-- order of own
pub record IsMerged (old own new : List ℕ) : Type 0 where
  pub long : length new ≡ length old + length own
  pub each : (x : ℕ) → times x new ≡ times x old + times x own
  pub alone : old ≡ [] → new ≡ own
