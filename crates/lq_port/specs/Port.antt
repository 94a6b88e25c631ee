-- The rule of a port: the items taken, then those waiting, are those put; and each item follows.
use Rattle.std.specs.Prelude.{◌≡◌, ◌≤◌, ◌⊎◌, ℕ, Bool, true, false, List, [], ◌∷◌, ◌++◌, ◌||◌, ◌==◌, length, drop, nat_lt, Option, Some, None, if◌then◌else◌}
use mathlib.Core.List.{IsPrefix}
use mathlib.Core.Option.{some}
use lib.ListN.{get_elem?}
use Rattle.lq_value.specs.declared.refusal.Refusal.{Refusal}
use Rattle.lq_value.specs.declared.refusal.Refusal.TheVariants.{BadPort}
use Rattle.lq_value.specs.declared.limits.TheConstants.{MAX_PLACES}
use Rattle.lq_port.specs.Known.{Known}

-- why a port with this many places is refused
abbrev pub port_refusal : ℕ → Option Refusal
port_refusal places = if (places == 0) || nat_lt MAX_PLACES places then Some BadPort else None

module _ {T F : Type 0} where
  -- what an end knows while it isn't joined with the other
  abbrev pub known_alone : ℕ → Bool → Bool → F → List T → List T → Known T F
  known_alone room puts takes floor taken ahead =
      record {
        puts = puts;
        takes = takes;
        room = room;
        floor = floor;
        taken = taken;
        ahead = ahead;
        whole = [];
        seen = [];
        told = floor;
      }

  -- the end for puts after a split
  abbrev pub putter : ℕ → F → Known T F → Known T F
  putter room floor v = known_alone room true false floor v.taken v.ahead

  -- the end for takes after a split
  abbrev pub taker : ℕ → F → Known T F → Known T F
  taker room floor v = known_alone room false true floor v.taken v.ahead

  -- an end that may do nothing
  abbrev pub idle : Known T F → Known T F
  idle v = known_alone v.room false false v.floor v.taken v.ahead

  -- all puts that the end knows
  abbrev pub put_of : Known T F → List T
  put_of v = v.taken ++ v.ahead

  -- both ends joined: all puts that the one knows, and all takes that the other knows
  abbrev pub together : Known T F → Known T F → Known T F
  together v w =
      record {
        puts = true;
        takes = true;
        room = v.room;
        floor = v.floor;
        taken = w.taken;
        ahead = drop (length w.taken) (put_of v);
        whole = put_of v;
        seen = put_of w;
        told = w.floor;
      }

  -- x was put at the back, and the end then knows what waits at that moment
  pub record AddsItem (v : Known T F) (x : T) (w : Known T F) : Type 0 where
    pub view : w ≡ known_alone v.room true false v.floor w.taken w.ahead
    pub put : put_of w ≡ put_of v ++ x ∷ []
    pub taken : IsPrefix v.taken w.taken
    pub within : length w.ahead ≤ v.room

  -- what both ends know together is what the port holds, which is no more than its room
  abbrev pub Totals : Known T F → List T → Type 0
  Totals v items =
      (v.ahead ≡ items) × (put_of v ≡ v.whole) × IsPrefix v.seen (put_of v) × (v.told ≡ v.floor)
      × (length items ≤ v.room)

  -- The two ends knew v and w, and know v' and w' after they were joined: v has all puts, and w has
  -- all takes.
  pub record Shares (v w v' w' : Known T F) : Type 0 where
    pub floor : w'.floor ≡ v'.floor
    pub floor_in : v'.floor ≡ v.floor
    pub floor_out : w'.floor ≡ w.floor
    pub taken : w'.taken ≡ w.taken
    pub taken_in : v'.taken ≡ w.taken
    pub put : put_of w' ≡ put_of v
    pub put_in : put_of v' ≡ put_of v
    pub ahead : v'.ahead ≡ w'.ahead
    pub later : IsPrefix w.ahead w'.ahead
    pub room : v'.room ≡ v.room
    pub within : length w'.ahead ≤ v.room

module _ {T F : Type 0} (follows : List T → F → T → Type 0) where
  -- each item follows the items before it and the floor
  abbrev pub IsLegal : F → List T → Type 0
  IsLegal floor xs =
      (before : List T) (x : T) (after : List T) → xs ≡ before ++ x ∷ after
      → follows before floor x

  -- x is added to what was taken. It was the first item known to wait, if any was.
  abbrev pub Removes : Known T F → T → Known T F → Type 0
  Removes v x w =
      (w ≡ known_alone v.room false true v.floor (v.taken ++ x ∷ []) (drop 1 v.ahead))
      × ((v.ahead ≡ []) ⊎ (v.ahead ≡ x ∷ drop 1 v.ahead))
      × follows v.taken v.floor x

  -- Only the pass `input` may put, and it knows all puts and the room. Only the pass `output` may
  -- take, and it knows all takes. What each knows of the other is a prefix. A pass that may do both
  -- keeps what the two knew.
  abbrev pub PassFits : ℕ → ℕ → ℕ → F → List T → List T → ℕ → Known T F → Type 0
  PassFits input output room floor put taken pass v =
      (v.puts ≡ true
      → (pass ≡ input) × (v.floor ≡ floor) × (put_of v ≡ put) × IsPrefix v.taken taken
      × (v.room ≡ room))
      × (v.takes ≡ true
      → (pass ≡ output) × (v.floor ≡ floor) × (v.taken ≡ taken) × IsPrefix (put_of v) put)
      × (v.puts ≡ true → v.takes ≡ true
      → (v.whole ≡ put) × IsPrefix v.seen put × (v.told ≡ floor))

  -- the rule for the waiting items, oldest first, and for what each pass knows
  pub record PortRule (items : List T) (views : List (Known T F)) : Type 0 where
    pub input : ℕ
    pub output : ℕ
    pub room : ℕ
    pub floor : F
    pub put : List T
    pub taken : List T
    pub in_order : put ≡ taken ++ items
    pub within : length items ≤ room
    pub legal : IsLegal floor put
    pub fits :
        (pass : ℕ) (v : Known T F) → get_elem? views pass ≡ some v
        → PassFits input output room floor put taken pass v
