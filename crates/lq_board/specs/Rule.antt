-- The rule of a board's words.
use Rattle.std.specs.Prelude.{◌≡◌, ◌≢◌, ℕ, ◌+◌, ◌<◌, ◌≤◌, Bool, true, false, List, length, slice_index, Option}
use mathlib.Core.Option.{some}
use lib.ListN.{get_elem?}
use Rattle.atomic_table.specs.Table.{State}
use Rattle.lq_volume.specs.Book.{Book, Extends}
use Rattle.lq_board.specs.Known.{KnownSlot, Author, Register, Sitting, Keeping, TokenView, Keeper, Seat, Pair, Spent}
use Rattle.lq_board.specs.Book.{IsFullBook}
use Rattle.lq_board.specs.Author.{IsSigned, IsAuthor, HasHeard}
use Rattle.lq_board.specs.Roll.{AreSeats, others_after, is_listed}
use Rattle.lq_board.specs.Slot.{slot_at}
use Rattle.lq_board.specs.View.{of_no_slot}

-- which token an author's number has, which seats are enlisted, and the changes of all others
pub record Roll : Type 0 where
  pub who : ℕ → ℕ
  pub enlisted : List ℕ
  pub gathered : List ℕ

-- the leading seat is number 1, and knows who is enlisted and the changes of all others
abbrev pub LeadsBoard : Bool → Roll → Author → Type 0
LeadsBoard free roll a =
    record {
      number : a.number ≡ 1;
      counted : free ≡ false;
      enlisted : a.enlisted ≡ roll.enlisted;
      gathered : a.gathered ≡ roll.gathered;
    }

-- The author is the token `by`, and no other. On a counted board it may make changes just where it
-- is enlisted.
pub record Owns (r : Register) (roll : Roll) (by : ℕ) (a : Author) : Type 0 where
  pub author : IsAuthor a r
  pub only : by ≡ roll.who a.number
  pub signs : r.free ≡ false → a.signs ≡ is_listed a.number roll.enlisted
  pub leads : a.leads ≡ true → LeadsBoard r.free roll a

-- What the rule knows: the keeper's token and its view, the roll, and the author whose seat a slot
-- has out.
pub record BoardState (M : Type 0) : Type 0 where
  pub id : ℕ
  pub view : Keeping M
  pub roll : Roll
  pub holder : ℕ → ℕ

-- A lawful book, each change of which has one author. On a counted board `gathered` is just the
-- changes whose authors are not enlisted.
abbrev pub BookFits : Book → Register → Roll → Type 0
BookFits book r roll =
    record {
      full : IsFullBook book;
      signed : IsSigned book r;
      enlisted : AreSeats r.seats roll.enlisted;
      gathered : r.free ≡ false → roll.gathered ≡ others_after 0 roll.enlisted r.authors;
    }

module _ {M : Type 0} where
  -- what holds for a seat that came back: its book is a prefix of the keeper's; a slot's seat was
  -- out under the name that the keeper knew, and had asked at least as often as the keeper knew
  abbrev pub CameBack : Book → Sitting M → KnownSlot M → Type 0
  CameBack book back was =
      Extends book back.book
      × (0 < back.slot → (was.name ≡ back.name) × (was.asks ≤ back.asks) × (was.out ≡ true))

  -- the seat with this author's number is out of its slot, and is the only one
  pub record Sits
      (slots : List (KnownSlot M))
      (holder : ℕ → ℕ)
      (words : List ℕ)
      (slot asks : ℕ)
      (name : Option M)
      (number : ℕ) : Type 0 where
    pub within : slot < 65
    pub out : (slot_at slots slot).out ≡ true
    pub named : (slot_at slots slot).name ≡ name
    pub word : slice_index words slot ≡ asks
    pub only : number ≡ holder slot

  -- where a seat leads, at most one seat of no slot is out beside those that calls made for it
  abbrev pub CountsOut : Register → Sitting M → Type 0
  CountsOut r w = w.author.leads ≡ true → r.out ≤ w.seats + 1

  -- a seat's book is a prefix of the keeper's, its author is this token, it is out of its slot, and
  -- it counts those that are out where it leads
  abbrev pub SeatFits : BoardState M → List ℕ → ℕ → Sitting M → Type 0
  SeatFits b words by w =
      Extends b.view.book w.book
      × Owns b.view.register b.roll by w.author
      × (0 < w.slot → Sits b.view.slots b.holder words w.slot w.asks w.name w.author.number)
      × CountsOut b.view.register w

  -- There is one keeper, which has the token of the latest seat that came back. The seats of a pair
  -- are two authors, the first of no slot.
  abbrev pub ViewFits : BoardState M → List ℕ → ℕ → TokenView M → Type 0
  ViewFits b words by (Keeper v) =
      (by ≡ b.id)
      × (v ≡ b.view)
      × (0 < v.back.author.number → SeatFits b words by (of_no_slot v.back))
  ViewFits b words by (Seat w) = SeatFits b words by w
  ViewFits b words by (Pair u w) =
      SeatFits b words by (of_no_slot u)
      × SeatFits b words by w
      × (u.author.number ≢ w.author.number)
  ViewFits b words by Spent = Unit {0}

  -- what a token has heard of the slots' words is true of them
  abbrev pub HeardFits : List ℕ → TokenView M → Type 0
  HeardFits words (Keeper v) =
      HasHeard words v.register.heard × HasHeard words v.back.author.heard
  HeardFits words (Seat w) = HasHeard words w.author.heard
  HeardFits words (Pair u w) = HasHeard words u.author.heard × HasHeard words w.author.heard
  HeardFits words Spent = Unit {0}

  -- a slot's word is at least what the keeper knows, and equals it where no seat of the slot is out
  pub record Agrees (words : List ℕ) (slots : List (KnownSlot M)) : Type 0 where
    pub wide : length words ≡ 65
    pub places : length slots ≡ 65
    pub known : (k : ℕ) → 0 < k → k < 65 → (slot_at slots k).asks ≤ slice_index words k
    pub idle : (k : ℕ) → 0 < k → k < 65 → (slot_at slots k).out ≡ false
        → slice_index words k ≡ (slot_at slots k).asks

  -- word 0 is the length of the keeper's book
  pub record BoardRule
      (b : BoardState M)
      (words : List ℕ)
      (views : List (TokenView M)) : Type 0 where
    pub number : slice_index words 0 ≡ length b.view.book.changes
    pub agrees : Agrees words b.view.slots
    pub came : CameBack b.view.book b.view.back b.view.was
    pub books : BookFits b.view.book b.view.register b.roll
    pub fits : (by : ℕ) (v : TokenView M) → get_elem? views by ≡ some v → ViewFits b words by v
    pub heard : (by : ℕ) (v : TokenView M) → get_elem? views by ≡ some v → HeardFits words v

  abbrev pub IsKept : State ℕ (TokenView M) → Type 0
  IsKept s = (b : BoardState M) × BoardRule b s.words s.views
