-- What a token knows. `M` is the type of the names that contracts give to subscriptions.
use Rattle.std.specs.Prelude.{ℕ, Bool, List, Option}
use Rattle.lq_volume.specs.Book.{Book}

-- What the keeper knows of a slot: whether the slot's seat is out, a lower bound on how often its
-- seats have asked, and the name that the latest seat went out with.
pub record KnownSlot (M : Type 0) : Type 0 where
  pub out : Bool
  pub asks : ℕ
  pub name : Option M

-- A seat as an author: its number, from 1, the numbers of the changes that it made, whether each
-- seat of its board may make changes (`free`), and whether it may itself (`signs`). The leading
-- seat of a counted board also knows the numbers of the seats that are enlisted, and has gathered
-- the numbers of the changes that other seats made. `heard` has, by slot, how often each slot's
-- seats have asked at least, as far as this seat has heard.
pub record Author : Type 0 where
  pub number : ℕ
  pub changes : List ℕ
  pub free : Bool
  pub signs : Bool
  pub leads : Bool
  pub enlisted : List ℕ
  pub gathered : List ℕ
  pub heard : List ℕ

-- Who made a book: the number of each change's author, how many seats have a number, how many of
-- them went out to a slot, how many seats of no slot are out, and whether each seat may make
-- changes, or just those that the leading seat enlists. `heard` is as in an author.
pub record Register : Type 0 where
  pub authors : List ℕ
  pub seats : ℕ
  pub openings : ℕ
  pub out : ℕ
  pub free : Bool
  pub heard : List ℕ

-- The keeper at one moment: its book, what it knew of each slot, and how many seats had gone out
-- to a slot by then.
pub record Moment (M : Type 0) : Type 0 where
  pub book : Book
  pub slots : List (KnownSlot M)
  pub openings : ℕ

-- What a seat knows. A seat of no slot has slot 0. `moments` are those that it has recorded.
-- `seats` and `openings` are how many seats of no slot and of a slot calls made for this one.
pub record Sitting (M : Type 0) : Type 0 where
  pub slot : ℕ
  pub book : Book
  pub asks : ℕ
  pub name : Option M
  pub author : Author
  pub moments : List (Moment M)
  pub seats : ℕ
  pub openings : ℕ

-- What the keeper knows. `back` is the seat that came back last, `was` the slot that it had. Before
-- a seat came back, and once one went out again, `back` has the number 0.
pub record Keeping (M : Type 0) : Type 0 where
  pub book : Book
  pub slots : List (KnownSlot M)
  pub register : Register
  pub back : Sitting M
  pub was : KnownSlot M

-- What a token knows. A seat that came back is spent. A pair is two seats, the first of no slot,
-- while a call takes both.
pub data TokenView (M : Type 0) : Type 0 where
  Keeper : Keeping M → TokenView M
  Seat : Sitting M → TokenView M
  Pair : Sitting M → Sitting M → TokenView M
  Spent : TokenView M
