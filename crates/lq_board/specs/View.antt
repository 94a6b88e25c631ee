-- What a token knows, before and after a step.
use Rattle.std.specs.Prelude.{◌≡◌, ℕ, ◌+◌, ◌<◌, Bool, List, [], ◌∷◌, ◌++◌, length, Option, None, IsSome}
use Rattle.atomic_table.specs.Table.{Me}
use Rattle.lq_volume.specs.State.{State}
use Rattle.lq_volume.specs.Book.{Book}
use Rattle.lq_board.specs.Known.{KnownSlot, Author, Register, Moment, Sitting, Keeping, TokenView, Keeper, Seat, Pair}
use Rattle.lq_board.specs.Book.{no_book, IsFullBook}
use Rattle.lq_board.specs.Author.{no_author, no_register, leader, leader_register, with_seat, with_number, with_out, with_opening, new_author, with_signs, with_roll, author_heard}
use Rattle.lq_board.specs.Slot.{unused, unused_slots, slot_at, gone_out, go_out, come_back}

module _ {M : Type 0} where
  -- a seat of no slot
  abbrev pub slotless_sitting : Book → Author → Sitting M
  slotless_sitting book author =
      record {
        slot = 0;
        book = book;
        asks = 0;
        name = None;
        author = author;
        moments = [];
        seats = 0;
        openings = 0;
      }

  -- a keeper to which no seat came back since the latest one went out
  abbrev pub keeping : Book → List (KnownSlot M) → Register → Keeping M
  keeping book slots register =
      record {
        book = book;
        slots = slots;
        register = register;
        back = slotless_sitting book no_author;
        was = unused;
      }

  abbrev pub keeper : Book → List (KnownSlot M) → Register → TokenView M
  keeper book slots register = Keeper (keeping book slots register)

  -- the keeper of a new board
  abbrev pub newborn : State → TokenView M
  newborn start = keeper (record { start = start; changes = [] }) unused_slots no_register

  abbrev pub keeping_of : TokenView M → Keeping M
  keeping_of (Keeper v) = v
  keeping_of _ = keeping no_book [] no_register

  abbrev pub sitting_of : TokenView M → Sitting M
  sitting_of (Seat w) = w
  sitting_of _ = slotless_sitting no_book no_author

  -- the moment that a keeper is at
  abbrev pub moment_in : TokenView M → Moment M
  moment_in v =
      let k = keeping_of v in
      record { book = k.book; slots = k.slots; openings = k.register.openings }

  -- a seat that has recorded one moment more
  abbrev pub with_moment : Sitting M → Moment M → Sitting M
  with_moment w moment = record w { moments = w.moments ++ moment ∷ [] }

  -- two seats, the first of no slot, while a call compares them
  abbrev pub first_sitting : TokenView M → Sitting M
  first_sitting (Pair a b) = a
  first_sitting _ = slotless_sitting no_book no_author

  abbrev pub second_of : TokenView M → Sitting M
  second_of (Pair a b) = b
  second_of _ = slotless_sitting no_book no_author

  abbrev pub paired : TokenView M → TokenView M → TokenView M
  paired v w = Pair (sitting_of v) (sitting_of w)

  abbrev pub of_no_slot : Sitting M → Sitting M
  of_no_slot w = record w { slot = 0 }

  -- a seat that leads these and has gathered these changes, or that may make changes or may not
  abbrev pub of_roll : Sitting M → List ℕ → List ℕ → Sitting M
  of_roll w enlisted gathered = record w { author = with_roll w.author enlisted gathered }

  abbrev pub of_signs : Sitting M → Bool → Sitting M
  of_signs w signs = record w { author = with_signs w.author signs }

  -- a seat that has heard this
  abbrev pub of_heard : Sitting M → List ℕ → Sitting M
  of_heard w heard = record w { author = author_heard w.author heard }

  -- the second has recorded the first's moments too
  abbrev pub second_recorded : TokenView M → TokenView M
  second_recorded v =
      let b = second_of v in
      Seat (record b { moments = b.moments ++ (first_sitting v).moments })

  abbrev pub first_seat : TokenView M → TokenView M
  first_seat v = Seat (of_no_slot (first_sitting v))

  abbrev pub second_seat : TokenView M → TokenView M
  second_seat v = Seat (second_of v)

  -- the keeper after a new seat of no slot is split off, which goes out or stays within a call; and
  -- that seat, which has recorded this moment
  abbrev pub with_new_number : TokenView M → TokenView M
  with_new_number v =
      keeper (keeping_of v).book (keeping_of v).slots (with_number (keeping_of v).register)

  abbrev pub with_new_seat : TokenView M → TokenView M
  with_new_seat v =
      keeper (keeping_of v).book (keeping_of v).slots (with_seat (keeping_of v).register)

  abbrev pub copy_of : TokenView M → TokenView M
  copy_of v =
      let k = keeping_of v in
      Seat (record (slotless_sitting k.book (new_author k.register)) { moments = moment_in v ∷ [] })

  -- the keeper and the seat after the leading seat is split off
  abbrev pub led : TokenView M → TokenView M
  led v = keeper (keeping_of v).book (keeping_of v).slots leader_register

  abbrev pub lead_of : TokenView M → TokenView M
  lead_of v = Seat (slotless_sitting (keeping_of v).book leader)

  -- the keeper and the seat after a slot's new seat is split off, under this name
  abbrev pub with_slot_seat : ℕ → Option M → TokenView M → TokenView M
  with_slot_seat k name v =
      keeper (keeping_of v).book (gone_out (keeping_of v).slots k name)
      (with_opening (keeping_of v).register)

  abbrev pub seated : ℕ → Option M → TokenView M → TokenView M
  seated slot name v =
      let k = keeping_of v in
      let asks = (slot_at k.slots slot).asks in
      Seat (record (slotless_sitting k.book (new_author k.register)) {
        slot = slot;
        asks = asks;
        name = name;
      })

  -- the keeper and the seat after the latest seat that came back is split off again, under this
  -- name, and with this count of the openings made for it
  abbrev pub parted : Option M → TokenView M → TokenView M
  parted name v =
      keeper (keeping_of v).book (go_out (keeping_of v).slots (keeping_of v).back.slot name)
      (keeping_of v).register

  abbrev pub sits_again : Sitting M → Book → Option M → (ℕ → ℕ) → Sitting M
  sits_again w book name openings =
      record w { book = book; name = name; openings = openings w.openings }

  abbrev pub again_of : Option M → (ℕ → ℕ) → TokenView M → TokenView M
  again_of name openings v =
      Seat (sits_again (keeping_of v).back (keeping_of v).book name openings)

  -- the same for a seat that records this moment
  abbrev pub again_recorded : Option M → (ℕ → ℕ) → TokenView M → TokenView M
  again_recorded name openings v =
      let k = keeping_of v in
      Seat (with_moment (sits_again k.back k.book name openings) (moment_in (parted name v)))

  -- the same for a seat that keeps its name, and for which one seat more is made, which is out
  abbrev pub parted_with_seat : TokenView M → TokenView M
  parted_with_seat v =
      let k = keeping_of v in
      keeper k.book (go_out k.slots k.back.slot k.back.name) (with_out k.register)

  abbrev pub again_with_seat : TokenView M → TokenView M
  again_with_seat v =
      let k = keeping_of v in
      Seat (record k.back { book = k.book; seats = k.back.seats + 1 })

  -- the keeper after a seat comes back
  abbrev pub taken : TokenView M → TokenView M → TokenView M
  taken v w =
      let back = sitting_of w in
      let slots = (keeping_of v).slots in
      Keeper (record (keeping_of v) {
        slots = come_back slots back.slot back.asks back.name;
        back = back;
        was = slot_at slots back.slot;
      })

  -- a keeper between its steps
  abbrev pub IsKeeping : Me ℕ (TokenView M) → Type 0
  IsKeeping me =
      (me ≡ (Keeper (keeping_of me.0), []))
      × (length (keeping_of me.0).slots ≡ 65)
      × IsFullBook (keeping_of me.0).book

  -- a slot's seat has a name; a seat of no slot has none, and hasn't asked
  pub record IsNamed (slot asks : ℕ) (name : Option M) : Type 0 where
    pub named : 0 < slot → IsSome name
    pub plain : slot ≡ 0 → (asks ≡ 0) × (name ≡ None)

  -- a seat that isn't spent
  abbrev pub IsSeat : Me ℕ (TokenView M) → Sitting M → Type 0
  IsSeat me w = me ≡ (Seat w, [])

  abbrev pub IsSitting : Me ℕ (TokenView M) → Type 0
  IsSitting me =
      (me ≡ (Seat (sitting_of me.0), []))
      × IsFullBook (sitting_of me.0).book
      × (0 < (sitting_of me.0).author.number)
