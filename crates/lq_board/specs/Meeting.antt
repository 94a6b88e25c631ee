-- What the keeper and a seat are after a call that takes both, by what they were before it.
use Rattle.std.specs.Prelude.{◌≡◌, ◌<◌, ◌≤◌, ℕ, true, List, [], ◌∷◌, ◌++◌, Option}
use Rattle.atomic_table.specs.Seated.{TableId}
use Rattle.atomic_table.specs.Table.{Me}
use Rattle.lq_volume.specs.declared.change.Change.{Change}
use Rattle.lq_volume.specs.Change.{after}
use Rattle.lq_volume.specs.Book.{Extends, grown, state_of}
use Rattle.lq_board.specs.Known.{KnownSlot, Sitting, TokenView, Seat}
use Rattle.lq_board.specs.Author.{new_author, with_author, with_change, with_opening}
use Rattle.lq_board.specs.Book.{IsFullBook}
use Rattle.lq_board.specs.Slot.{slot_at, gone_out, go_out, come_back}
use Rattle.lq_board.specs.Token.{KeeperToken, SeatToken, moment_of, slotless_token}
use Rattle.lq_board.specs.Rule.{CameBack}

module _ {M : Type 0} where
  -- The slot's seat is new, under this name: it has a new number, and knows the keeper's book and
  -- how often the slot's seats have asked. It may make changes where each seat may.
  pub record GoesOut (old new : KeeperToken M) (slot : ℕ) (name : Option M) (s : SeatToken M)
      : Type 0 where
    pub seat : s
        ≡ record (slotless_token old.board old.book (new_author old.register)) {
          slot = slot;
          asks = (slot_at old.slots slot).asks;
          name = name;
        }
    pub signs : s.author.signs ≡ old.board.free
    pub full : IsFullBook s.book
    pub keeper : new
        ≡ record old {
          slots = gone_out old.slots slot name;
          register = with_opening old.register;
        }

  -- the slot's seat was out under the name that the keeper knew, and had asked at least as often as
  -- the keeper knew
  pub record WasOut (slots : List (KnownSlot M)) (s : SeatToken M) : Type 0 where
    pub name : (slot_at slots s.slot).name ≡ s.name
    pub asks : (slot_at slots s.slot).asks ≤ s.asks
    pub out : (slot_at slots s.slot).out ≡ true

  -- what the keeper knows of the slots once it has met this seat, which keeps its name
  abbrev pub slots_met : List (KnownSlot M) → SeatToken M → List (KnownSlot M)
  slots_met slots s = go_out (come_back slots s.slot s.asks s.name) s.slot s.name

  -- A slot's seat, s before and t after, met the keeper. It knows the keeper's book, the keeper
  -- knows how often it has asked, and both have this name.
  pub record HasMet (old new : KeeperToken M) (s t : SeatToken M) (name : Option M)
      : Type 0 where
    pub later : Extends t.book s.book
    pub full : IsFullBook t.book
    pub seat : t ≡ record s { board = old.board; book = old.book; name = name }
    pub keeper : new
        ≡ record old {
          slots = gone_out (come_back old.slots s.slot s.asks s.name) s.slot name;
        }
    pub was_out : WasOut old.slots s

  -- A seat, s before and t after, added a lawful change to the keeper's book, under this number. It
  -- knows the new book, the number is among its own changes, and it has recorded the moment of the
  -- keeper then. Nothing else of it changes.
  pub record HasAdded (change : Change) (number : ℕ) (old new : KeeperToken M)
      (s t : SeatToken M) : Type 0 where
    pub later : Extends old.book s.book
    pub full : IsFullBook new.book
    pub state : state_of new.book ≡ after (state_of old.book) change
    pub seat : t
        ≡ record s {
          board = old.board;
          book = new.book;
          author = with_change s.author number;
          moments = s.moments ++ moment_of new ∷ [];
        }
    pub keeper : new
        ≡ record old {
          book = grown old.book (change ∷ []);
          slots = slots_met old.slots s;
          register = with_author old.register s.author.number;
        }
    pub was_out : 0 < s.slot → WasOut old.slots s

  -- A seat came back as w, and is out again as v with this token. It was as the keeper knew. Now
  -- the keeper has v's book, and its slot is out under v's name.
  pub record GoesOutAgain (old new : KeeperToken M) (w v : Sitting M) (table : TableId)
      (me : Me ℕ (TokenView M)) : Type 0 where
    pub back : CameBack old.book w (slot_at old.slots w.slot)
    pub board : table ≡ old.board.table
    pub view : me ≡ (Seat v, [])
    pub full : IsFullBook v.book
    pub keeper : new
        ≡ record old {
          book = v.book;
          slots = go_out (come_back old.slots w.slot w.asks w.name) w.slot v.name;
          register = new.register;
        }
