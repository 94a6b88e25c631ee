-- A step by its cases: it is refused, a change, an opening, or an act at a taken slot. What each
-- leaves: a refused event the world, each step a fair world fair.
use Rattle.std.proofs.Common.{◌≡◌, ◌≢◌, ℕ, zero, suc, ◌+◌, ◌-◌, List, [], ◌∷◌, map, refl, ap, ◌∙◌, sym, subst, arith, Some, None, Option, inl, inr, Bool, true, false, ◌≤◌, ◌<◌, length}
use Rattle.std.specs.Prelude.{slice_get, slice_set, replicate, ◌⊎◌, ◌==◌, if◌then◌else◌, ◌&&◌, not, nat_le}
use Rattle.std.specs.Option.{option_flatten, option_map}
use Rattle.std.proofs.Math.Nat.{sub_self}
use Rattle.std.proofs.lemmas.Bool.Decides.{nat_tests}
use Rattle.lq_value.specs.declared.refusal.Refusal.{Refusal}
use Rattle.lq_value.specs.declared.refusal.Refusal.TheVariants.{NoMemory, NotOpen, BadPort, BadBacklog, NoSlot, Exhausted}
use Rattle.lq_predicate.specs.Query.{Query}
use Rattle.lq_volume.specs.declared.change.Change.{Change as Change_}
use Rattle.lq_volume.specs.Change.{refused as refused_by}
use Rattle.lq_volume.specs.Book.{Book, state_of, grown, number_of}
use Rattle.lq_desk_world.specs.World.{World, Subscribed, is_over, subscribed_at, with_slot, is_live, can_put, first_in_port, taken_before_free, after_change}
use Rattle.lq_desk_world.specs.declared.event.Event.{Event}
use Rattle.lq_desk_world.specs.declared.event.Event.TheVariants.{Change, Open, OpenBy, Put, Take, HangUp, Notice, Close, Finish}
use Rattle.lq_desk_world.specs.declared.event.Act.{Act}
use Rattle.lq_desk_world.specs.declared.event.Act.TheVariants as act
use Rattle.lq_desk_world.specs.Events.{Answer, Finished, Refused, acting, at_slot, changing, event_at, finishing_if, open_refusal, opened_now, opening, outcome, read_outcome, putting_if, reading_if, noticing_if, closing_if}
use Rattle.lq_desk_world.specs.Runs.{Step}
use Rattle.lq_desk_world.specs.Fair.{AreFair, IsFair, IsFairWorld}
use Rattle.lq_desk_world.specs.Headline.{read_by, frees}
use Rattle.lq_desk_world.proofs.SubLemmas.{IsOver, Leaves, keeps-self, over-from, keeps-change}
use Rattle.lq_desk_world.proofs.TakenLemmas.{closing-leaves, hanging_up-leaves, leaves, noticing-leaves, putting-leaves, reading-leaves}
use Rattle.lq_update.specs.declared.open_options.Flags.{Flags}
use Rattle.lq_update.specs.declared.open_options.OpenOptions.{OpenOptions}
use Rattle.lq_update.specs.Options.{options_of}
use Rattle.lq_update.specs.declared.parcel.Parcel.{Parcel}
use Rattle.lq_desk_world.specs.Laws.{RefusalsLeaveWorlds, RunsKeepWorldsFair}
use Rattle.lq_desk_world.proofs.ListLemmas.{each_bool, slice_set-same}
use Rattle.std.proofs.lemmas.Bool.{and_parts, leb-false, leb-true}
use Rattle.lq_value.specs.Refusal.{first_refusal}
use Rattle.lq_update.specs.Updates.{updates_of}
use Rattle.lq_update.specs.Laws.{ChangesAddSteps, UpdatesStay}

-- ---- slots

-- the subscription in slot k is at index k - 1
pub slot-index : (w : World) (k : ℕ) (s : Subscribed) → subscribed_at w k ≡ Some s
    → (i : ℕ) × (k ≡ i + 1) × (slice_get w.slots i ≡ Some (Some s))
slot-index w k s is = by (k == 0) (slice_get w.slots (k - 1)) refl refl is
  where
    by : (x : Bool) (o : Option (Option Subscribed)) → (k == 0) ≡ x → slice_get w.slots (k - 1) ≡ o
        → (if x then None else option_flatten o) ≡ Some s
        → (i : ℕ) × (k ≡ i + 1) × (slice_get w.slots i ≡ Some (Some s))
    by false (Some (Some t)) some at is = (k - 1, grind (arith, nat_tests), cc)
    by x o some at is = absurd (let no : ⊥ = cc in no)

-- what is at index i is in slot i + 1
pub at-index : (w : World) (i : ℕ)
    → subscribed_at w (i + 1) ≡ option_flatten (slice_get w.slots i)
at-index w i =
    let some : (i + 1 == 0) ≡ false = grind (arith, nat_tests) in
    let place : i + 1 - 1 ≡ i = omega arith in
    ap (λ x. if x then None else option_flatten (slice_get w.slots (i + 1 - 1))) some
    ∙ ap (λ j. option_flatten (slice_get w.slots j)) place

-- ---- an act at a slot

-- an act at another slot reads nothing here, and does not free this one
pub act-apart : (slot k : ℕ) (a : Act) (x : Answer) → k ≢ slot
    → (frees slot (event_at k a) x ≡ false) × (read_by slot (event_at k a) x ≡ [])
act-apart slot k act.Take x other =
    let e : (k == slot) ≡ false = grind (arith, nat_tests) in
    (refl, ap (λ y. if y then x ∷ [] else []) e)
act-apart slot k act.Finish Finished other = (grind (arith, nat_tests), refl)
act-apart slot k a x other = (refl, refl)

-- an act at its slot frees that, all of which was taken, or leaves it there, with what it read
abbrev pub ActPasses : Book → Subscribed → ℕ → Act → Answer → Option Subscribed → Type 0
ActPasses b s slot a x o =
    ((frees slot (event_at slot a) x ≡ true) × (a ≡ act.Finish) × (o ≡ None) × IsOver b s)
    ⊎ ((frees slot (event_at slot a) x ≡ false) × Leaves b s (read_by slot (event_at slot a) x) o)

-- each act does
pub acting-passes : (b : Book) (s : Subscribed) (slot : ℕ) (a : Act) → IsFair b s
    → ActPasses b s slot a (acting b a s).0 (acting b a s).1
acting-passes b s slot act.Put h = inr (refl, putting-leaves b s h)
acting-passes b s slot act.Take h =
    let own : (slot == slot) ≡ true = grind (arith, nat_tests) in
    inr (
      refl,
      subst (λ x. Leaves b s (if x then (read_outcome b s).0 ∷ [] else []) (read_outcome b s).1)
          (sym own) (reading-leaves b s h),
    )
acting-passes b s slot act.HangUp h = inr (refl, hanging_up-leaves b s h)
acting-passes b s slot act.Notice h = inr (refl, noticing-leaves b s h)
acting-passes b s slot act.Close h = inr (refl, closing-leaves b s h)
acting-passes b s slot act.Finish h = by (is_over b s) refl
  where
    by : (x : Bool) → is_over b s ≡ x
        → ActPasses b s slot act.Finish (finishing_if s x).0 (finishing_if s x).1
    by true is = inl (grind (arith, nat_tests), refl, refl, over-from b s is)
    by false is = inr (refl, leaves b s s h refl (keeps-self b s h))

-- ---- the cases

-- an answer of a refusal frees no slot
pub frees-refused : (slot : ℕ) (e : Event) (r : Refusal) → frees slot e (Refused r) ≡ false
frees-refused slot (Finish k) r = refl
frees-refused slot e r = refl

-- an event that is refused reads nothing in a taken slot
abbrev pub ReadsNothing : World → Event → Refusal → Type 0
ReadsNothing w e r = (i : ℕ) (s : Subscribed) → slice_get w.slots i ≡ Some (Some s)
    → read_by (i + 1) e (Refused r) ≡ []

-- a property of an event, its answer and the world after it, that holds in each of five cases
module _ (w : World) (P : Event → Answer → World → Type 0)
    (refused : (e : Event) (r : Refusal) → ReadsNothing w e r → P e (Refused r) w)
    (changed : (c : Change_) → refused_by (state_of w.book) c ≡ None
    → P (Change c) (changing w c None).0 (changing w c None).1)
    (opened : (q : Query) (port backlog : ℕ) (moved : Bool) → open_refusal w port backlog ≡ None
    → P (Open q port backlog moved)
    (opening w (opened_now w q (options_of port backlog moved)) None).0
    (opening w (opened_now w q (options_of port backlog moved)) None).1)
    (opened_by : (q : Query) (o : OpenOptions) → open_refusal w o.port o.backlog ≡ None
    → P (OpenBy q o) (opening w (opened_now w q o) None).0 (opening w (opened_now w q o) None).1)
    (acted : (i : ℕ) (a : Act) (s : Subscribed) → slice_get w.slots i ≡ Some (Some s)
    → P (event_at (i + 1) a) (acting w.book a s).0 (with_slot w i (acting w.book a s).1)) where
  -- a change, refused or accepted
  by_change : (c : Change_) (r : Option Refusal) → refused_by (state_of w.book) c ≡ r
      → P (Change c) (changing w c r).0 (changing w c r).1
  by_change c (Some e) is = refused (Change c) e (λ i s at. refl)
  by_change c None is = changed c is

  -- an opening, refused or answered
  by_opening : (q : Query) (port backlog : ℕ) (moved : Bool) (r : Option Refusal)
      → open_refusal w port backlog ≡ r
      → P (Open q port backlog moved)
      (opening w (opened_now w q (options_of port backlog moved)) r).0
      (opening w (opened_now w q (options_of port backlog moved)) r).1
  by_opening q port backlog moved (Some e) is =
      refused (Open q port backlog moved) e (λ i s at. refl)
  by_opening q port backlog moved None is = opened q port backlog moved is

  -- and so is one by options
  by_options : (q : Query) (o : OpenOptions) (r : Option Refusal)
      → open_refusal w o.port o.backlog ≡ r
      → P (OpenBy q o) (opening w (opened_now w q o) r).0 (opening w (opened_now w q o) r).1
  by_options q o (Some e) is = refused (OpenBy q o) e (λ i s at. refl)
  by_options q o None is = opened_by q o is

  -- an act, at a slot that is free or taken
  by_act : (k : ℕ) (a : Act) (o : Option Subscribed) → subscribed_at w k ≡ o
      → P (event_at k a) (at_slot w k o (acting w.book a)).0 (at_slot w k o (acting w.book a)).1
  by_act k a None is = refused (event_at k a) NotOpen (λ i s at. (act-apart (i + 1) k a _ (λ own.
      let here : subscribed_at w k ≡ Some s =
      ap (subscribed_at w) own ∙ (at-index w i ∙ ap option_flatten at) in
      let no : ⊥ = cc in
      no)).1)
  by_act k a (Some s) is = let found = slot-index w k s is in by found.0 found.1 found.2
    where
      by : (i : ℕ) → k ≡ i + 1 → slice_get w.slots i ≡ Some (Some s)
          → P (event_at k a) (acting w.book a s).0 (with_slot w (k - 1) (acting w.book a s).1)
      by i own at =
          let place : k - 1 ≡ i = omega (arith, own) in
          rw (place, own) (acted i a s at)

  -- what holds in each case holds of each event
  pub outcome-cases : (e : Event) → P e (outcome w e).0 (outcome w e).1
  outcome-cases (Change c) = by_change c (refused_by (state_of w.book) c) refl
  outcome-cases (Open q port backlog moved) =
      by_opening q port backlog moved (open_refusal w port backlog) refl
  outcome-cases (OpenBy q o) = by_options q o (open_refusal w o.port o.backlog) refl
  outcome-cases (Put k) = by_act k act.Put (subscribed_at w k) refl
  outcome-cases (Take k) = by_act k act.Take (subscribed_at w k) refl
  outcome-cases (HangUp k) = by_act k act.HangUp (subscribed_at w k) refl
  outcome-cases (Notice k) = by_act k act.Notice (subscribed_at w k) refl
  outcome-cases (Close k) = by_act k act.Close (subscribed_at w k) refl
  outcome-cases (Finish k) = by_act k act.Finish (subscribed_at w k) refl

  -- what holds in each case holds of each step
  pub step-cases : (e : Event) (a : Answer) (v : World) → Step w e a v → P e a v
  step-cases e a v (inl done) = rw (done.0, done.1) (outcome-cases e)
  step-cases (Change c) a v (inr ran) =
      rw (ran.1, ran.2) (refused (Change c) NoMemory (λ i s at. refl))
  step-cases (Open q port backlog moved) a v (inr ran) =
      rw (ran.1, ran.2) (refused (Open q port backlog moved) NoMemory (λ i s at. refl))
  step-cases (OpenBy q o) a v (inr ran) =
      rw (ran.1, ran.2) (refused (OpenBy q o) NoMemory (λ i s at. refl))
  step-cases e a v (inr ran) = absurd ran.0

-- ---- a refusal

-- what an act answers and leaves of its subscription: it is left, if the act is refused
abbrev LeavesRefused : Subscribed → Refusal → Answer × Option Subscribed → Type 0
LeavesRefused s r left = left.0 ≡ Refused r → left.1 ≡ Some s

-- an act that is refused leaves its subscription
acting-refused : (b : Book) (s : Subscribed) (r : Refusal) (a : Act)
    → LeavesRefused s r (acting b a s)
acting-refused b s r act.Put =
    each_bool (λ x. LeavesRefused s r (putting_if s x)) (λ is. cc) (λ is. refl) (can_put b s)
acting-refused b s r act.Take = by (first_in_port b s)
  where
    by : (o : Option Parcel) → LeavesRefused s r (reading_if b s o)
    by None is = refl
    by (Some p) is = cc
acting-refused b s r act.HangUp = λ is. cc
acting-refused b s r act.Notice = each_bool (λ x. LeavesRefused s r (noticing_if b s x))
    (λ is. cc) (λ is. refl) (is_live s && s.hang_up_asked)
acting-refused b s r act.Close =
    each_bool (λ x. LeavesRefused s r (closing_if b s x)) (λ is. cc) (λ is. refl) (is_live s)
acting-refused b s r act.Finish =
    each_bool (λ x. LeavesRefused s r (finishing_if s x)) (λ is. cc) (λ is. refl) (is_over b s)

-- each event that is refused leaves the world
pub refusals-leave : RefusalsLeaveWorlds
refusals-leave w e r = outcome-cases w (λ e a v. a ≡ Refused r → v ≡ w) (λ e q none is. refl)
    (λ c none is. cc) (λ q port backlog moved none is. cc) (λ q o none is. cc)
    (λ i a s at is. ap (with_slot w i) (acting-refused w.book s r a is)
    ∙ ap (λ slots. record w { slots = slots }) (slice_set-same w.slots i (Some s) at)) e

-- ---- fair worlds

-- a subscription that is opened
nothing_told : (q : Query) (flags : Flags) (b : Book) (n : ℕ) → updates_of q flags b n n ≡ []
nothing_told q flags b n = rw (sub_self n) refl

-- what is so where no row of the table of an opening holds
no_row : (a b c d : Bool) → first_refusal
    ((not a, BadPort) ∷ (not b, BadBacklog) ∷ (c, NoSlot) ∷ (d, Exhausted) ∷ []) ≡ None
    → (a ≡ true) × (b ≡ true) × (c ≡ false)
no_row true true false d h = (refl, refl, refl)
no_row a b c d h = absurd (let no : ⊥ = cc in no)

-- what an opening asks of a world, a port and a backlog
pub record MayOpen (w : World) (port backlog : ℕ) : Type 0 where
  pub places : 1 ≤ port
  pub most : port ≤ 1024
  pub within : backlog ≤ 65536
  pub free : taken_before_free w.slots < length w.slots

-- what is not refused may open: a port and a backlog within their bounds, and a free slot
pub may_open : (w : World) (port backlog : ℕ) → open_refusal w port backlog ≡ None
    → MayOpen w port backlog
may_open w port backlog none =
    let rows = no_row (nat_le 1 port && nat_le port 1024) (nat_le backlog 65536)
    (nat_le (length w.slots) (taken_before_free w.slots))
    (nat_le (state_of w.book).limit w.openings) none in
    let ports = and_parts (nat_le 1 port) (nat_le port 1024) rows.0 in
    record {
      places = leb-true 1 port ports.0;
      most = leb-true port 1024 ports.1;
      within = leb-true backlog 65536 rows.1;
      free = leb-false _ _ rows.2;
    }

-- a subscription that has just opened is fair
pub opened-fair : (w : World) (q : Query) (o : OpenOptions) → MayOpen w o.port o.backlog
    → IsFair w.book (opened_now w q o)
opened-fair w q o may = record {
  begun = omega arith;
  places = may.places;
  most = may.most;
  backlog = may.within;
  opened = omega arith;
  covered = omega arith;
  taken = omega arith;
  put = omega arith;
  port = omega arith;
  held = λ live. omega (arith, ap length (nothing_told q o.flags w.book (number_of w.book)));
}

-- a slot's subscription is fair, if it has one
abbrev IsFairSlot : Book → Option Subscribed → Type 0
IsFairSlot b o = (s : Subscribed) → o ≡ Some s → IsFair b s

fair-slot : (b : Book) (s : Subscribed) → IsFair b s → IsFairSlot b (Some s)
fair-slot b s h t is = subst (IsFair b) (let same : s ≡ t = cc in same) h

-- an act leaves a fair slot fair
acting-fair : (b : Book) (s : Subscribed) (a : Act) → IsFair b s → IsFairSlot b (acting b a s).1
acting-fair b s a h = elim (acting-passes b s 1 a h) [
  | inl gone ↦ subst (IsFairSlot b) (sym gone.2) (λ t is. cc)
  | inr left ↦ subst (IsFairSlot b) (sym left.1.is) (fair-slot b _ left.1.does.keeps.fair)
]

-- fair slots of which one is made another fair one are fair
set-fair : (b : Book) (slots : List (Option Subscribed)) (i : ℕ) (o : Option Subscribed)
    → AreFair b slots → IsFairSlot b o → AreFair b (slice_set slots i o)
set-fair b [] i o h own j s at = cc
set-fair b (x ∷ xs) zero o h own zero s at = own s (let same : o ≡ Some s = cc in same)
set-fair b (x ∷ xs) zero o h own (suc j) s at = h (suc j) s at
set-fair b (x ∷ xs) (suc i) o h own zero s at = h zero s at
set-fair b (x ∷ xs) (suc i) o h own (suc j) s at =
    set-fair b xs i o (λ k. h (suc k)) own j s at

-- free slots are fair
pub free-fair : (b : Book) (n : ℕ) → AreFair b (replicate n None)
free-fair b zero i s at = cc
free-fair b (suc n) zero s at = cc
free-fair b (suc n) (suc i) s at = free-fair b n i s at

module _ (stay : UpdatesStay) (add : ChangesAddSteps) where
  -- a change leaves each slot fair
  changed-fair : (b : Book) (c : Change_) (slots : List (Option Subscribed)) → AreFair b slots
      → AreFair (grown b (c ∷ [])) (map (option_map (after_change b c)) slots)
  changed-fair b c [] h i t at = cc
  changed-fair b c (None ∷ slots) h zero t at = cc
  changed-fair b c (Some s ∷ slots) h zero t at =
      fair-slot (grown b (c ∷ [])) (after_change b c s)
      (keeps-change stay add b c s (h zero s refl)).fair t
      (let same : Some (after_change b c s) ≡ Some t = cc in same)
  changed-fair b c (o ∷ slots) h (suc i) t at = changed-fair b c slots (λ j. h (suc j)) i t at

  -- each step leaves a fair world fair
  step-fair : (w : World) (e : Event) (a : Answer) (v : World) → IsFairWorld w → Step w e a v
      → IsFairWorld v
  step-fair w e a v h = step-cases w (λ e a v. IsFairWorld v) (λ e r none. h)
      (λ c none. record { each = changed-fair w.book c w.slots h.each })
      (λ q port backlog moved none. record {
        each = set-fair w.book w.slots _ _ h.each (fair-slot w.book _
            (opened-fair w q (options_of port backlog moved) (may_open w port backlog none)));
      })
      (λ q o none. record {
        each = set-fair w.book w.slots _ _ h.each (fair-slot w.book _
            (opened-fair w q o (may_open w o.port o.backlog none)));
      })
      (λ i x s at. record {
        each = set-fair w.book w.slots i _ h.each (acting-fair w.book s x (h.each i s at));
      }) e a v

  -- each event leaves a fair world fair
  pub outcome-fair : (w : World) (e : Event) → IsFairWorld w → IsFairWorld (outcome w e).1
  outcome-fair w e h = step-fair w e _ _ h (inl (refl, refl))

  -- a run leaves a fair world fair
  pub run-fair : RunsKeepWorldsFair
  run-fair w end [] [] h run = subst (λ (u : World). IsFairWorld u) (sym run) h
  run-fair w end (e ∷ events) (a ∷ answers) h run =
      run-fair run.0 end events answers (step-fair w e a run.0 h run.1) run.2
  run-fair w end events answers h run = absurd run
