-- What a step on the words proves.
use Rattle.std.specs.Prelude.{◌≡◌, ◌≢◌, ℕ, ◌+◌, ◌<◌, ◌≤◌, true, false, ◌∷◌, length, Option, option_to_list, slice_index}
use Rattle.atomic_table.specs.Table.{Step, Me}
use Rattle.lq_volume.specs.declared.change.Change.{Change}
use Rattle.lq_volume.specs.Book.{grown, Extends}
use Rattle.lq_board.specs.Known.{TokenView, Keeper, Seat, Pair}
use Rattle.lq_board.specs.Book.{IsFullBook}
use Rattle.lq_board.specs.Roll.{IsMerged, without_number}
use Rattle.lq_board.specs.Author.{AreDisjoint, IsWhole, HasHeard, with_author, with_change, with_heard, come_home}
use Rattle.lq_board.specs.Slot.{slot_at, counted}
use Rattle.lq_board.specs.View.{keeper, keeping_of, sitting_of, first_sitting, second_of, of_roll, of_signs, of_heard}
use Rattle.lq_board.specs.Rule.{CameBack, CountsOut}

module _ {M : Type 0} where
  -- a change by the latest seat that came back was added to the book
  abbrev pub AddsChange :
      Option Change → Step ℕ → Me ℕ (TokenView M) → ℕ → Me ℕ (TokenView M) → Type 0
  AddsChange change s m found n =
      let was = keeping_of m.0 in
      let book = grown was.book (option_to_list change) in
      let author = with_change was.back.author (length was.book.changes + 1) in
      let register = with_author was.register was.back.author.number in
      let back = record was.back { book = book; author = author } in
      (n ≡ (Keeper (record was { book = book; register = register; back = back }), m.1))
      × (found ≡ length was.book.changes)
      × IsFullBook book
      × CameBack was.book was.back was.was

  -- the number is the length of a book that extends the book known before
  abbrev pub Sees : Step ℕ → Me ℕ (TokenView M) → ℕ → Me ℕ (TokenView M) → Type 0
  Sees s m found n =
      let was = sitting_of m.0 in
      let book = (sitting_of n.0).book in
      (n ≡ (Seat (record was { book = book }), m.1))
      × Extends book was.book
      × (found ≡ length book.changes)
      × IsFullBook book
      × IsWhole was.author found

  -- what came back is as the rule says, and the number is the length of the book
  abbrev pub Checks : Step ℕ → Me ℕ (TokenView M) → ℕ → Me ℕ (TokenView M) → Type 0
  Checks s m found n =
      let was = keeping_of m.0 in
      (n ≡ m)
      × CameBack was.book was.back was.was
      × (found ≡ length was.book.changes)
      × (0 < was.back.author.number → IsWhole was.back.author found)
      × (0 < was.back.author.number → CountsOut was.register was.back)

  -- the same, and the seat came home: it doesn't go out again
  abbrev pub ComesHome : Step ℕ → Me ℕ (TokenView M) → ℕ → Me ℕ (TokenView M) → Type 0
  ComesHome s m found n =
      let was = keeping_of m.0 in
      (n ≡ (keeper was.book was.slots (come_home was.register was.back.slot), m.1))
      × CameBack was.book was.back was.was
      × (found ≡ length was.book.changes)
      × (0 < was.back.author.number → IsWhole was.back.author found)

  -- a slot's seats asked at least as often as was known, and exactly as often where no seat is out
  abbrev pub Counts : Step ℕ → Me ℕ (TokenView M) → ℕ → Me ℕ (TokenView M) → Type 0
  Counts s m found n =
      let was = keeping_of m.0 in
      (n ≡ (keeper was.book (counted was.slots s.word found) was.register, m.1))
      × ((slot_at was.slots s.word).asks ≤ found)
      × (slice_index was.register.heard s.word ≤ found)
      × ((slot_at was.slots s.word).out ≡ false → found ≡ (slot_at was.slots s.word).asks)

  -- the keeper has heard of as many asks as it had, and as the latest seat that came back
  abbrev pub Hears : Step ℕ → Me ℕ (TokenView M) → ℕ → Me ℕ (TokenView M) → Type 0
  Hears s m found n =
      let was = keeping_of m.0 in
      let heard = (keeping_of n.0).register.heard in
      (n ≡ (Keeper (record was { register = with_heard was.register heard }), m.1))
      × CameBack was.book was.back was.was
      × HasHeard heard was.register.heard
      × HasHeard heard was.back.author.heard

  -- the seat has asked once more
  abbrev pub AsksAgain : Step ℕ → Me ℕ (TokenView M) → ℕ → Me ℕ (TokenView M) → Type 0
  AsksAgain s m found n =
      let was = sitting_of m.0 in
      (n ≡ (Seat (record was { asks = was.asks + 1 }), m.1)) × (found ≡ was.asks)

  -- two seats are two authors, who share no change
  abbrev pub Compares : Step ℕ → Me ℕ (TokenView M) → ℕ → Me ℕ (TokenView M) → Type 0
  Compares s m found n =
      let one = (first_sitting m.0).author in
      let two = (second_of m.0).author in
      (n ≡ m) × (one.number ≢ two.number) × AreDisjoint one.changes two.changes

  -- the first seat of a pair has heard what both had, and how often the second has asked
  abbrev pub HearsOf : Step ℕ → Me ℕ (TokenView M) → ℕ → Me ℕ (TokenView M) → Type 0
  HearsOf s m found n =
      let a = first_sitting m.0 in
      let b = second_of m.0 in
      let heard = (first_sitting n.0).author.heard in
      (n ≡ (Pair (of_heard a heard) b, m.1))
      × HasHeard heard a.author.heard
      × HasHeard heard b.author.heard
      × (0 < b.slot → b.asks ≤ slice_index heard b.slot)

  -- the first seat of a pair leads, and enlists the second
  abbrev pub Enlists : Step ℕ → Me ℕ (TokenView M) → ℕ → Me ℕ (TokenView M) → Type 0
  Enlists s m found n =
      let a = first_sitting m.0 in
      let b = second_of m.0 in
      let enlisted = b.author.number ∷ a.author.enlisted in
      n ≡ (Pair (of_roll a enlisted a.author.gathered) (of_signs b true), m.1)

  -- the first seat of a pair leads, and dismisses the second
  abbrev pub Dismisses : Step ℕ → Me ℕ (TokenView M) → ℕ → Me ℕ (TokenView M) → Type 0
  Dismisses s m found n =
      let a = first_sitting m.0 in
      let b = second_of m.0 in
      let enlisted = without_number b.author.number a.author.enlisted in
      let gathered = (first_sitting n.0).author.gathered in
      (n ≡ (Pair (of_roll a enlisted gathered) (of_signs b false), m.1))
      × IsMerged a.author.gathered b.author.changes gathered
