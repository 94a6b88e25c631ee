-- Acts at each slot of a world, one slot after another, are a run of it.
use Rattle.std.proofs.Common.{◌≡◌, ℕ, zero, suc, ◌+◌, ◌-◌, List, [], ◌∷◌, ◌++◌, length, map, Option, Some, None, refl, sym, ap, ◌∙◌, subst, inl, arith, append_assoc, length-append, set-set, false}
use Rattle.std.proofs.lemmas.Bool.Decides.{nat_tests}
use Rattle.std.specs.Prelude.{slice_get, slice_set, ◌==◌, if◌then◌else◌}
use Rattle.std.specs.Option.{option_flatten}
use Rattle.lq_desk_world.specs.World.{World, Subscribed, subscribed_at, with_slot}
use Rattle.lq_desk_world.specs.declared.event.Event.{Event}
use Rattle.lq_desk_world.specs.declared.event.Act.{Act}
use Rattle.lq_desk_world.specs.declared.event.Act.TheVariants as act
use Rattle.lq_desk_world.specs.Events.{Answer, acting, act_outcome, answer_to, at_slot, event_at, next}
use Rattle.lq_desk_world.specs.Runs.{Run}
use Rattle.lq_server_slots.specs.Acts.{ActsLead, SlotActsLead, AllActsLead, events_of_acts}

-- what was set is there
get_set : {A : Type 0} (xs : List A) (i : ℕ) (x y : A) → slice_get xs i ≡ Some x
    → slice_get (slice_set xs i y) i ≡ Some y
get_set [] i x y h = cc
get_set (z ∷ xs) zero x y h = refl
get_set (z ∷ xs) (suc i) x y h = get_set xs i x y h

-- setting what is there changes nothing
set_same : {A : Type 0} (xs : List A) (i : ℕ) (x : A) → slice_get xs i ≡ Some x
    → slice_set xs i x ≡ xs
set_same [] i x h = refl
set_same (y ∷ xs) zero x h = cc
set_same (y ∷ xs) (suc i) x h = ap (λ ys. y ∷ ys) (set_same xs i x h)

-- the subscription in slot i + 1 is at index i
at_index : (w : World) (i : ℕ) → subscribed_at w (i + 1) ≡ option_flatten (slice_get w.slots i)
at_index w i =
    let some : (i + 1 == 0) ≡ false = grind (arith, nat_tests) in
    let place : i + 1 - 1 ≡ i = omega arith in
    ap (λ x. if x then None else option_flatten (slice_get w.slots (i + 1 - 1))) some
    ∙ ap (λ j. option_flatten (slice_get w.slots j)) place

-- the world after an act's event
act-next : (w : World) (k : ℕ) (a : Act) → next w (event_at k a) ≡ (act_outcome w k a).1
act-next w k act.Put = refl
act-next w k act.Take = refl
act-next w k act.HangUp = refl
act-next w k act.Notice = refl
act-next w k act.Close = refl
act-next w k act.Finish = refl

-- an act at a taken slot
act-step : (w : World) (i : ℕ) (u v : Subscribed) (a : Act) → slice_get w.slots i ≡ Some (Some u)
    → (acting w.book a u).1 ≡ Some v → next w (event_at (i + 1) a) ≡ with_slot w i (Some v)
act-step w i u v a at is =
    let place : i + 1 - 1 ≡ i = omega arith in
    act-next w (i + 1) a
    ∙ ap (λ (o : Option Subscribed). (at_slot w (i + 1) o (acting w.book a)).1)
    (at_index w i ∙ ap option_flatten at)
    ∙ ap (λ (j : ℕ). with_slot w j (acting w.book a u).1) place
    ∙ ap (λ (o : Option Subscribed). with_slot w i o) is

-- acts at a taken slot are a run
slot-run : (w : World) (i : ℕ) (u v : Subscribed) (acts : List Act)
    → slice_get w.slots i ≡ Some (Some u) → ActsLead w.book acts u v
    → (answers : List Answer) × Run w (map (event_at (i + 1)) acts) answers (with_slot w i (Some v))
slot-run w i u v [] at is = (
  [],
  ap (λ (s : Subscribed). with_slot w i (Some s)) is
      ∙ ap (λ (slots : List (Option Subscribed)). record w { slots = slots })
      (set_same w.slots i (Some u) at),
)
slot-run w i u v (a ∷ acts) at does =
    let mid : World = with_slot w i (Some does.0) in
    let rest = slot-run mid i does.0 v acts (get_set w.slots i (Some u) (Some does.0) at)
    does.2 in
    let same : with_slot mid i (Some v) ≡ with_slot w i (Some v) =
    ap (λ (slots : List (Option Subscribed)). record w { slots = slots })
    (set-set w.slots i (Some does.0) (Some v)) in (
      answer_to w (event_at (i + 1) a) ∷ rest.0,
      (
        mid,
        inl (refl, sym (act-step w i u does.0 a at does.1)),
        subst (Run mid (map (event_at (i + 1)) acts) rest.0) same rest.1,
      ),
    )

-- a run and then another
run-append : (w m end : World) (es fs : List Event) (xs ys : List Answer) → Run w es xs m
    → Run m fs ys end → Run w (es ++ fs) (xs ++ ys) end
run-append w m end [] fs [] ys first more = subst (λ (v : World). Run v fs ys end) first more
run-append w m end [] fs (x ∷ xs) ys first more = absurd first
run-append w m end (e ∷ es) fs [] ys first more = absurd first
run-append w m end (e ∷ es) fs (x ∷ xs) ys first more =
    (first.0, first.1, run-append first.0 m end es fs xs ys first.2 more)

-- what stands behind a front
get-behind : (front us : List (Option Subscribed)) (o : Option Subscribed)
    → slice_get (front ++ o ∷ us) (length front) ≡ Some o
get-behind [] us o = refl
get-behind (x ∷ front) us o = get-behind front us o

set-behind : (front us : List (Option Subscribed)) (o n : Option Subscribed)
    → slice_set (front ++ o ∷ us) (length front) n ≡ front ++ n ∷ us
set-behind [] us o n = refl
set-behind (x ∷ front) us o n =
    ap (λ (l : List (Option Subscribed)). x ∷ l) (set-behind front us o n)

-- acts at the slots behind a front
all-run : (us : List (Option Subscribed)) (front : List (Option Subscribed)) (w : World)
    (all : List (List Act)) (vs : List (Option Subscribed)) → w.slots ≡ front ++ us
    → AllActsLead w.book us all vs
    → (answers : List Answer)
    × Run w (events_of_acts (length front + 1) all) answers (record w { slots = front ++ vs })
all-run [] front w [] [] is does = (
  [],
  ap (λ (slots : List (Option Subscribed)). record w { slots = slots }) (sym is),
)
all-run [] front w [] (n ∷ vs) is does = absurd does
all-run [] front w (acts ∷ all) vs is does = absurd does
all-run (o ∷ us) front w [] vs is does = absurd does
all-run (o ∷ us) front w (acts ∷ all) [] is does = absurd does
all-run (o ∷ us) front w (acts ∷ all) (n ∷ vs) is does =
    let k : ℕ = length front in
    let here : slice_get w.slots k ≡ Some o =
    ap (λ (l : List (Option Subscribed)). slice_get l k) is ∙ get-behind front us o in
    let first : (answers : List Answer)
    × Run w (map (event_at (k + 1)) acts) answers (with_slot w k n) = one w k o acts n here does.0
    in
    let mid : World = with_slot w k n in
    let set : mid.slots ≡ (front ++ n ∷ []) ++ us =
    ap (λ (l : List (Option Subscribed)). slice_set l k n) is ∙ set-behind front us o n
    ∙ sym (append_assoc front (n ∷ []) us) in
    let rest = all-run us (front ++ n ∷ []) mid all vs set does.1 in
    let long : length (front ++ n ∷ []) ≡ k + 1 = length-append front (n ∷ []) in
    let end : (front ++ n ∷ []) ++ vs ≡ front ++ n ∷ vs = append_assoc front (n ∷ []) vs in
    let more : Run mid (events_of_acts (k + 1 + 1) all) rest.0
    (record w { slots = front ++ n ∷ vs }) =
    subst
    (λ (p : ℕ × List (Option Subscribed)). Run mid (events_of_acts (p.0 + 1) all) rest.0
    (record w { slots = p.1 }))
    (λ i. (long i, end i)) rest.1 in
    (first.0 ++ rest.0, run-append w mid _ _ _ first.0 rest.0 first.1 more)
  where
    one : (w : World) (k : ℕ) (o : Option Subscribed) (acts : List Act) (n : Option Subscribed)
        → slice_get w.slots k ≡ Some o → SlotActsLead w.book o acts n
        → (answers : List Answer) × Run w (map (event_at (k + 1)) acts) answers (with_slot w k n)
    one w k None acts n at does =
        let end : with_slot w k n ≡ w =
        ap (λ (m : Option Subscribed). with_slot w k m) does.1
        ∙ ap (λ (slots : List (Option Subscribed)). record w { slots = slots })
        (set_same w.slots k None at) in (
          [],
          subst (λ (l : List Act). Run w (map (event_at (k + 1)) l) [] (with_slot w k n))
              (sym does.0) end,
        )
    one w k (Some u) acts n at does =
        let run = slot-run w k u does.0 acts at does.2 in (
          run.0,
          subst (λ (m : Option Subscribed). Run w (map (event_at (k + 1)) acts) run.0
              (with_slot w k m)) (sym does.1) run.1,
        )

-- acts at each slot of a world, over its book, are a run of it
pub acts_run : (w : World) (all : List (List Act)) (slots : List (Option Subscribed))
    → AllActsLead w.book w.slots all slots
    → (answers : List Answer) × Run w (events_of_acts 1 all) answers (record w { slots = slots })
acts_run w all slots does = all-run w.slots [] w all slots refl does
