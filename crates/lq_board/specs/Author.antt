-- Who made each change of a book. Each seat is an author, under a number that no other seat has.
-- The changes of a book have the numbers 1, 2, 3 and so on.
use Rattle.std.specs.Prelude.{◌≡◌, ℕ, zero, suc, ◌+◌, ◌-◌, ◌<◌, ◌≤◌, Bool, true, false, List, [], ◌∷◌, ◌++◌, length, Contains, slice_index}
use Rattle.lq_volume.specs.Book.{Book}
use Rattle.lq_board.specs.Known.{Author, Register}
use Rattle.lq_board.specs.Roll.{changes_after, numbers, AreSeats}

-- each change of the book has one author, which is a seat
pub record IsSigned (book : Book) (r : Register) : Type 0 where
  pub each : length r.authors ≡ length book.changes
  pub seats : AreSeats r.seats r.authors

-- the author is a seat, and knows exactly its own changes
pub record IsAuthor (a : Author) (r : Register) : Type 0 where
  pub least : 0 < a.number
  pub most : a.number ≤ r.seats
  pub changes : a.changes ≡ changes_after 0 a.number r.authors
  pub free : a.free ≡ r.free

-- no number is in both
pub record AreDisjoint (one two : List ℕ) : Type 0 where
  pub none : (n : ℕ) → Contains one n → ¬ (Contains two n)

-- where no seat is enlisted, the leading seat has gathered all of n changes, each once
abbrev pub IsWhole : Author → ℕ → Type 0
IsWhole a n = a.leads ≡ true → a.enlisted ≡ [] → a.gathered ≡ numbers n

-- who has heard `more` of the slots' words has heard of at least as many asks as `less`; the words
-- themselves are the most that can be heard of
abbrev pub HasHeard : List ℕ → List ℕ → Type 0
HasHeard more less = (k : ℕ) → 0 < k → slice_index less k ≤ slice_index more k

-- no author and no seat
abbrev pub no_register : Register
no_register = record { authors = []; seats = 0; openings = 0; out = 0; free = true; heard = [] }

-- the first seat of a counted board, which leads
abbrev pub leader : Author
leader =
    record {
      number = 1;
      changes = [];
      free = false;
      signs = false;
      leads = true;
      enlisted = [];
      gathered = [];
      heard = [];
    }

abbrev pub leader_register : Register
leader_register =
    record { authors = []; seats = 1; openings = 0; out = 1; free = false; heard = [] }

-- no author, and no change
abbrev pub no_author : Author
no_author = record leader { number = 0; free = true; leads = false }

-- one number more is given out
abbrev pub with_number : Register → Register
with_number r = record r { seats = r.seats + 1 }

-- one seat of no slot more, which is out; and a new seat, which made no change
abbrev pub with_seat : Register → Register
with_seat r = record r { seats = r.seats + 1; out = r.out + 1 }

-- one seat of no slot more is out
abbrev pub with_out : Register → Register
with_out r = record r { out = r.out + 1 }

-- one seat more, which went out to a slot
abbrev pub with_opening : Register → Register
with_opening r = record r { seats = r.seats + 1; openings = r.openings + 1 }

-- a seat of this slot came home; just those of no slot are counted
abbrev pub come_home : Register → ℕ → Register
come_home r zero = record r { out = r.out - 1 }
come_home r (suc slot) = r

abbrev pub new_author : Register → Author
new_author r = record no_author { number = r.seats + 1; free = r.free; signs = r.free }

-- one change more, by this author, and that author
abbrev pub with_author : Register → ℕ → Register
with_author r author = record r { authors = r.authors ++ author ∷ [] }

abbrev pub with_change : Author → ℕ → Author
with_change a n = record a { changes = a.changes ++ n ∷ [] }

-- it has heard this
abbrev pub with_heard : Register → List ℕ → Register
with_heard r heard = record r { heard = heard }

abbrev pub author_heard : Author → List ℕ → Author
author_heard a heard = record a { heard = heard }

-- it may make changes, or may not
abbrev pub with_signs : Author → Bool → Author
with_signs a signs = record a { signs = signs }

-- it leads these, and has gathered these changes
abbrev pub with_roll : Author → List ℕ → List ℕ → Author
with_roll a enlisted gathered = record a { enlisted = enlisted; gathered = gathered }
