-- What an event does to folds, and to which slots are taken.
use Rattle.std.proofs.Common.{◌≡◌, ◌==◌, ℕ, zero, suc, ◌+◌, ◌-◌, List, [], ◌∷◌, map, refl, ap, ◌∙◌, sym, arith, Bool, true, false, Option, Some, None, option_map}
use Rattle.std.specs.Prelude.{is_some, slice_get, slice_set}
use Rattle.std.specs.Option.{option_flatten}
use Rattle.lq_value.specs.declared.entry.Entry.{Entry}
use Rattle.lq_value.specs.declared.refusal.Refusal.{Refusal}
use Rattle.lq_predicate.specs.Query.{Query}
use Rattle.lq_volume.specs.Book.{Book, state_of}
use Rattle.lq_volume.specs.Change.{refused}
use Rattle.lq_update.specs.declared.open_options.OpenOptions.{OpenOptions}
use Rattle.lq_update.specs.Options.{options_of}
use Rattle.lq_update.specs.declared.message.Message.{Message}
use Rattle.lq_update.specs.declared.parcel.Parcel.{Parcel}
use Rattle.lq_update.specs.declared.parcel.Parcel.TheVariants.{Update, Fin}
use Rattle.lq_desk_world.specs.World.{World, Subscribed, after_change, first_in_port, is_over, subscribed_at, taken_before_free}
use Rattle.lq_desk_world.specs.declared.event.Event.{Event}
use Rattle.lq_desk_world.specs.declared.event.Event.TheVariants.{Change, Open, OpenBy, Put, Take, HangUp, Notice, Close, Finish}
use Rattle.lq_desk_world.specs.Events.{Answer, Opened, Took, Finished, answer_to, asked_to_open, at_slot, changing, closing, finishing, finishing_if, hanging_up, next, noticing, open_refusal, opened_now, opening, putting, read_outcome, reading_if}
use Rattle.lq_script_desk.specs.Folds.{Folds, folds_after}

-- an answer that leaves the folds
abbrev pub IsQuiet : Answer → Type 0
IsQuiet (Opened slot at first) = ⊥
IsQuiet (Took (Update m)) = ⊥
IsQuiet Finished = ⊥
IsQuiet a = Unit {0}

pub quiet-folds : (slot : ℕ) (a : Answer) (folds : Folds) → IsQuiet a
    → folds_after slot a folds ≡ folds
quiet-folds slot a folds quiet = grind arith

-- What an event does, by its answer and the slots after it: an opening takes a slot, a finish frees
-- one, a read gives an update, and all else leaves the folds. Only the first two change which slots
-- are taken.
pub data Does (w : World) : Event → Answer → List (Option Subscribed) → Type 0 where
  leaves : {e : Event} {a : Answer} {slots : List (Option Subscribed)} → IsQuiet a
      → map is_some slots ≡ map is_some w.slots → Does w e a slots
  opens : {e : Event} {q : Query} {o : OpenOptions} {at : ℕ} {first : List Entry}
      (s : Subscribed) → asked_to_open e ≡ Some (q, o)
      → Does w e (Opened (taken_before_free w.slots + 1) at first)
      (slice_set w.slots (taken_before_free w.slots) (Some s))
  reads : {k : ℕ} {m : Message} {slots : List (Option Subscribed)}
      → map is_some slots ≡ map is_some w.slots → Does w (Take k) (Took (Update m)) slots
  finishes : {k : ℕ} → (k == 0) ≡ false
      → Does w (Finish k) Finished (slice_set w.slots (k - 1) None)

-- ---- which places of a list are filled

-- a place that is filled before and after, or neither
pub filled-same : {A : Type 0} (xs : List (Option A)) (i : ℕ) (o : Option A)
    → is_some o ≡ is_some (option_flatten (slice_get xs i))
    → map is_some (slice_set xs i o) ≡ map is_some xs
filled-same [] i o same = refl
filled-same (x ∷ xs) zero o same = ap (λ b. b ∷ map is_some xs) same
filled-same (x ∷ xs) (suc i) o same = ap (λ bs. is_some x ∷ bs) (filled-same xs i o same)

-- a place that is set to what it has
pub set_same : {A : Type 0} (xs : List (Option A)) (i : ℕ) (o : Option A)
    → option_flatten (slice_get xs i) ≡ o → slice_set xs i o ≡ xs
set_same [] i o is = refl
set_same (x ∷ xs) zero o is = ap (λ y. y ∷ xs) (sym is)
set_same (x ∷ xs) (suc i) o is = ap (λ ys. x ∷ ys) (set_same xs i o is)

-- what is in each place is changed
filled-map : {A : Type 0} (f : A → A) (xs : List (Option A))
    → map is_some (map (option_map f) xs) ≡ map is_some xs
filled-map f [] = refl
filled-map f (None ∷ xs) = ap (λ bs. false ∷ bs) (filled-map f xs)
filled-map f (Some x ∷ xs) = ap (λ bs. true ∷ bs) (filled-map f xs)

-- a slot that is taken isn't slot 0, and has its index
slot-taken : (w : World) (k : ℕ) (s : Subscribed) → subscribed_at w k ≡ Some s
    → ((k == 0) ≡ false) × (option_flatten (slice_get w.slots (k - 1)) ≡ Some s)
slot-taken w k s is = grind arith

-- ---- each event

-- an act that leaves the folds, and its slot taken
abbrev LeavesTaken : Answer × Option Subscribed → Type 0
LeavesTaken p = IsQuiet p.0 × (is_some p.1 ≡ true)

-- a put, a request to end, its notice and a close
put-leaves : (b : Book) (s : Subscribed) → LeavesTaken (putting b s)
put-leaves b s = grind arith

notice-leaves : (b : Book) (s : Subscribed) → LeavesTaken (noticing b s)
notice-leaves b s = grind arith

close-leaves : (b : Book) (s : Subscribed) → LeavesTaken (closing b s)
close-leaves b s = grind arith

module _ (w : World) (k : ℕ) where
  -- the slot is taken afterwards
  still : (s : Subscribed) (o : Option Subscribed) → subscribed_at w k ≡ Some s
      → is_some o ≡ true → map is_some (slice_set w.slots (k - 1) o) ≡ map is_some w.slots
  still s o is some =
      filled-same w.slots (k - 1) o (some ∙ sym (ap is_some (slot-taken w k s is).1))

  -- an act at a slot: a free one refuses it
  act-does : (e : Event) (act : Subscribed → Answer × Option Subscribed) (o : Option Subscribed)
      → ((s : Subscribed) → o ≡ Some s → Does w e (act s).0 (slice_set w.slots (k - 1) (act s).1))
      → Does w e (at_slot w k o act).0 (at_slot w k o act).1.slots
  act-does e act None acts = leaves tt refl
  act-does e act (Some s) acts = acts s refl

  -- one that leaves the folds
  quiet-does : (e : Event) (act : Subscribed → Answer × Option Subscribed)
      → ((s : Subscribed) → LeavesTaken (act s))
      → Does w e (at_slot w k (subscribed_at w k) act).0
      (at_slot w k (subscribed_at w k) act).1.slots
  quiet-does e act quiet = act-does e act (subscribed_at w k) λ s is.
      leaves (quiet s).0 (still s (act s).1 is (quiet s).1)

  -- a read
  read-does : (s : Subscribed) → subscribed_at w k ≡ Some s → (p : Option Parcel)
      → Does w (Take k) (reading_if w.book s p).0
      (slice_set w.slots (k - 1) (reading_if w.book s p).1)
  read-does s is (Some (Update m)) = reads (still s _ is refl)
  read-does s is (Some (Fin mark)) = leaves tt (still s _ is refl)
  read-does s is None = leaves (grind arith) (still s _ is refl)

  -- a finish
  finish-does : (s : Subscribed) → subscribed_at w k ≡ Some s → (x : Bool)
      → Does w (Finish k) (finishing_if s x).0
      (slice_set w.slots (k - 1) (finishing_if s x).1)
  finish-does s is true = finishes (slot-taken w k s is).0
  finish-does s is false = leaves tt (still s _ is refl)

-- an opening
opens-does : (w : World) (e : Event) (q : Query) (o : OpenOptions)
    → asked_to_open e ≡ Some (q, o) → (r : Option Refusal)
    → Does w e (opening w (opened_now w q o) r).0 (opening w (opened_now w q o) r).1.slots
opens-does w e q o asks (Some r) = leaves tt refl
opens-does w e q o asks None = opens (opened_now w q o) asks

-- any event
pub does : (w : World) (e : Event) → Does w e (answer_to w e) (next w e).slots
does w (Change c) = by (refused (state_of w.book) c)
  where
    by : (r : Option Refusal)
        → Does w (Change c) (changing w c r).0 (changing w c r).1.slots
    by (Some e) = leaves tt refl
    by None = leaves tt (filled-map (after_change w.book c) w.slots)
does w (Open q port backlog moved) =
    opens-does w (Open q port backlog moved) q (options_of port backlog moved) refl
    (open_refusal w port backlog)
does w (OpenBy q o) = opens-does w (OpenBy q o) q o refl (open_refusal w o.port o.backlog)
does w (Put k) = quiet-does w k (Put k) (putting w.book) (put-leaves w.book)
does w (HangUp k) = quiet-does w k (HangUp k) hanging_up (λ s. (tt, refl))
does w (Notice k) = quiet-does w k (Notice k) (noticing w.book) (notice-leaves w.book)
does w (Close k) = quiet-does w k (Close k) (closing w.book) (close-leaves w.book)
does w (Take k) = act-does w k (Take k) (read_outcome w.book) (subscribed_at w k) λ s is.
    read-does w k s is (first_in_port w.book s)
does w (Finish k) = act-does w k (Finish k) (finishing w.book) (subscribed_at w k) λ s is.
    finish-does w k s is (is_over w.book s)
