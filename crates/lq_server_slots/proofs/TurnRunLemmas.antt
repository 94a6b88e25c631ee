-- Notices and puts at all slots are a run.
use Rattle.std.proofs.Common.{◌≡◌, ℕ, zero, suc, ◌+◌, ◌<◌, ◌≤◌, Bool, true, false, true≢false, List, [], ◌∷◌, length, map, Option, Some, None, refl, sym, ap, ◌∙◌, subst, inl, inr, arith, length-append}
use Rattle.std.specs.Prelude.{nat_lt, ◌&&◌}
use Rattle.std.specs.List.{range_with_len}
use Rattle.std.proofs.lemmas.Bool.{lt-ltb, ltb-true}
use Rattle.lq_volume.specs.Book.{Book, grown}
use Rattle.lq_board.specs.Known.{KnownSlot}
use Rattle.lq_board.specs.Slot.{slot_at}
use Rattle.lq_desk_world.specs.World.{World, Subscribed, after_change, change_overruns, overrun_if, is_live, is_over}
use Rattle.lq_desk_world.specs.declared.event.Act.{Act}
use Rattle.lq_desk_world.specs.declared.event.Act.TheVariants as act
use Rattle.lq_value.specs.declared.refusal.Refusal.{Refusal}
use Rattle.lq_volume.specs.declared.change.Change.{Change as Change_}
use Rattle.std.specs.Option.{option_map}
use Rattle.lq_desk_world.specs.declared.event.Event.TheVariants.{Change}
use Rattle.lq_desk_world.specs.Events.{changing, closing_if, finishing_if, next, noticing, noticing_if}
use Rattle.lq_desk_world.specs.Runs.{Run}
use Rattle.lq_server_slots.specs.Acts.{ActsLead, SlotActsLead, AllActsLead, events_of_acts}
use Rattle.lq_server_slots.proofs.ActLemmas.{acts_run}
use Rattle.lq_server_slots.specs.declared.identity.Identity.{Identity}
use Rattle.lq_server_slots.specs.declared.subscription.Subscription.{Subscription}
use Rattle.lq_server_slots.specs.Shown.{shown_subscription, slot_shown}
use Rattle.lq_server_slots.specs.Slots.{slot_in}
use Rattle.lq_server_slots.specs.Turn.{known_subscription, after_act, after_notice, IsMove, MovesLead, SlotPuts}
use Rattle.lq_server_slots.specs.TurnRun.{taken_known, world_known, HasPlaces, IsWithin, IsNoticing, ArePutsAndTakes, AreActs, MadeAreRuns, RefusedAreRuns}
use Rattle.lq_server_slots.proofs.MoveLemmas.{puts_run}

-- moves are acts
moved : (b : Book) (acts : List Act) (u v : Subscribed) → MovesLead b acts u v → ActsLead b acts u v
moved b [] u v is = is
moved b (a ∷ acts) u v is = (is.0, is.1, moved b acts is.0 v is.3)

-- a notice leaves a subscription
notice_some : (b : Book) (u : Subscribed) → (noticing b u).1 ≡ Some (after_notice b u)
notice_some b u = by (is_live u && u.hang_up_asked)
  where
    by : (x : Bool) → (noticing_if b u x).1 ≡ Some (after_act u (noticing_if b u x).1)
    by true = refl
    by false = refl

-- and keeps its port and what was put and taken
notice_keeps : (b : Book) (u : Subscribed)
    → ((after_notice b u).port ≡ u.port) × ((after_notice b u).put ≡ u.put)
    × ((after_notice b u).taken ≡ u.taken)
notice_keeps b u = by (is_live u && u.hang_up_asked)
  where
    by : (x : Bool) → let v = after_act u (noticing_if b u x).1 in
        (v.port ≡ u.port) × (v.put ≡ u.put) × (v.taken ≡ u.taken)
    by true = (refl, refl, refl)
    by false = (refl, refl, refl)

-- a request that became known comes first
asked_first : (b : Book) (u v : Subscribed) (x y : Bool) (acts : List Act)
    → (x ≡ true → y ≡ true) → ActsLead b acts (record u { hang_up_asked = y }) v
    → (more : List Act) × ActsLead b more (record u { hang_up_asked = x }) v
asked_first b u v true true acts on does = (acts, does)
asked_first b u v true false acts on does = absurd (true≢false (sym (on refl)))
asked_first b u v false true acts on does =
    (act.HangUp ∷ acts, (record u { hang_up_asked = true }, refl, does))
asked_first b u v false false acts on does = (acts, does)

-- one slot
slot_acts : (b : Book) (o n : Option Subscription) (p q : KnownSlot Identity)
    → IsWithin b n q → HasPlaces o → p.asks ≤ q.asks → SlotPuts b (after_notice b) o n q
    → (acts : List Act)
    × SlotActsLead b (slot_shown (taken_known o) o p) acts (slot_shown (taken_known n) n q)
slot_acts b None n p q within places rises is =
    ([], (refl, rw is refl))
slot_acts b (Some s) None p q within places rises is = absurd is
slot_acts b (Some s) (Some t) p q within places rises is =
    let u : Subscribed = known_subscription s q in
    let v : Subscribed = known_subscription t q in
    let keeps = notice_keeps b u in
    let long = length-append s.input.taken s.input.ahead in
    let puts = puts_run b (after_notice b u) v is (omega (arith, keeps.0, places))
    (omega (arith, keeps.1, keeps.2, long))
    within in
    let after : ActsLead b (act.Notice ∷ puts.0) u v =
    (after_notice b u, notice_some b u, moved b puts.0 (after_notice b u) v puts.1) in
    let all = asked_first b (known_subscription s p) v (nat_lt s.asks p.asks) (nat_lt s.asks q.asks)
    (act.Notice ∷ puts.0)
    (λ was. lt-ltb _ _ (let lt = ltb-true _ _ was in omega (arith, lt, rises))) after in
    (all.0, (v, refl, all.1))

-- acts at each slot of a range
range_acts : (b : Book) (f g : ℕ → Option Subscribed) (n a : ℕ)
    → ((i : ℕ) → i < a + n → (acts : List Act) × SlotActsLead b (f i) acts (g i))
    → (all : List (List Act)) × AllActsLead b (map f (range_with_len a n)) all
    (map g (range_with_len a n))
range_acts b f g zero a each = ([], tt)
range_acts b f g (suc n) a each =
    let here = each a (omega arith) in
    let rest = range_acts b f g n (a + 1) (λ i lt. each i (omega (arith, lt))) in
    (here.0 ∷ rest.0, (here.1, rest.1))

-- all slots
pub refused_runs : RefusedAreRuns
refused_runs old new book openings places within rises is =
    let b = old.keeper.book in
    let f : ℕ → Option Subscribed = λ i. slot_shown (taken_known (slot_in old.subscriptions i))
    (slot_in old.subscriptions i) (slot_at old.keeper.slots (i + 1)) in
    let g : ℕ → Option Subscribed = λ i. slot_shown (taken_known (slot_in new.subscriptions i))
    (slot_in new.subscriptions i) (slot_at new.keeper.slots (i + 1)) in
    let all = range_acts b f g 64 0 (λ i low. slot_acts b (slot_in old.subscriptions i)
    (slot_in new.subscriptions i) (slot_at old.keeper.slots (i + 1))
    (slot_at new.keeper.slots (i + 1)) (within i low)
    (places i low) (rises (i + 1)) (is i low)) in
    let run = acts_run (world_known old) all.0 (world_known new).slots all.1 in
    let end : record (world_known old) { slots = (world_known new).slots } ≡ world_known new =
    λ i. record {
      book = sym book i;
      openings = sym openings i;
      slots = (world_known new).slots;
    } in (
      events_of_acts 1 all.0,
      run.0,
      subst (λ (w : World). Run (world_known old) (events_of_acts 1 all.0) run.0 w) end run.1,
    )

-- ---- a change that is made

-- a slot between the notices and the change
abbrev mid_of : Book → Option Subscription → KnownSlot Identity → Option Subscribed
mid_of b None q = None
mid_of b (Some s) q = Some (after_notice b (known_subscription s q))

-- a request that became known, and the notice
slot_first : (b : Book) (o : Option Subscription) (p q : KnownSlot Identity) → p.asks ≤ q.asks
    → (acts : List Act) × IsNoticing o acts
    × SlotActsLead b (slot_shown (taken_known o) o p) acts (mid_of b o q)
slot_first b None p q rises = ([], refl, (refl, refl))
slot_first b (Some s) p q rises =
    let on : nat_lt s.asks p.asks ≡ true → nat_lt s.asks q.asks ≡ true =
    λ was. lt-ltb _ _ (let lt = ltb-true _ _ was in omega (arith, lt, rises)) in
    by (nat_lt s.asks p.asks) (nat_lt s.asks q.asks) on
  where
    by : (x y : Bool) → (x ≡ true → y ≡ true)
        → (acts : List Act) × IsNoticing (Some s) acts
        × SlotActsLead b (Some (shown_subscription x (length s.input.taken) s)) acts
        (Some (after_notice b (shown_subscription y (length s.input.taken) s)))
    by true true on =
        let u = shown_subscription true (length s.input.taken) s in (
          act.Notice ∷ [],
          inl refl,
          (
            after_notice b u,
            refl,
            (
              after_notice b u,
              notice_some b u,
              refl,
            ),
          ),
        )
    by true false on = absurd (true≢false (sym (on refl)))
    by false true on =
        let u = shown_subscription true (length s.input.taken) s in (
          act.HangUp ∷ act.Notice ∷ [],
          inr refl,
          (after_notice b u, refl, (u, refl, (after_notice b u, notice_some b u, refl))),
        )
    by false false on =
        let u = shown_subscription false (length s.input.taken) s in (
          act.Notice ∷ [],
          inl refl,
          (
            after_notice b u,
            refl,
            (
              after_notice b u,
              notice_some b u,
              refl,
            ),
          ),
        )

-- what moves parcels is a put or a take
no_notice : (b : Book) (u : Subscribed) (x : Bool) → IsMove (noticing_if b u x).0 → ⊥
no_notice b u true is = is
no_notice b u false is = is

no_close : (b : Book) (u : Subscribed) (x : Bool) → IsMove (closing_if b u x).0 → ⊥
no_close b u true is = is
no_close b u false is = is

no_finish : (u : Subscribed) (x : Bool) → IsMove (finishing_if u x).0 → ⊥
no_finish u true is = is
no_finish u false is = is

puts_takes : (b : Book) (acts : List Act) (u v : Subscribed) → MovesLead b acts u v
    → ArePutsAndTakes acts
puts_takes b [] u v is = tt
puts_takes b (act.Put ∷ acts) u v is = puts_takes b acts is.0 v is.3
puts_takes b (act.Take ∷ acts) u v is = puts_takes b acts is.0 v is.3
puts_takes b (act.HangUp ∷ acts) u v is = absurd is.2
puts_takes b (act.Notice ∷ acts) u v is =
    absurd (no_notice b u (is_live u && u.hang_up_asked) is.2)
puts_takes b (act.Close ∷ acts) u v is = absurd (no_close b u (is_live u) is.2)
puts_takes b (act.Finish ∷ acts) u v is = absurd (no_finish u (is_over b u) is.2)

-- acts at each slot of a range, with a fact of each
range_facts : (P : ℕ → List Act → Type 0) (b : Book) (f g : ℕ → Option Subscribed) (n a : ℕ)
    → ((i : ℕ) → i < a + n → (acts : List Act) × P i acts × SlotActsLead b (f i) acts (g i))
    → (all : List (List Act)) × AreActs P a all
    × AllActsLead b (map f (range_with_len a n)) all (map g (range_with_len a n))
range_facts P b f g zero a each = ([], tt, tt)
range_facts P b f g (suc n) a each =
    let here = each a (omega arith) in
    let rest = range_facts P b f g n (a + 1) (λ i lt. each i (omega (arith, lt))) in
    (here.0 ∷ rest.0, (here.1, rest.1), (here.2, rest.2))

-- a change keeps the port and what was put and taken
change_keeps : (b : Book) (c : Change_) (u : Subscribed)
    → ((after_change b c u).port ≡ u.port) × ((after_change b c u).put ≡ u.put)
    × ((after_change b c u).taken ≡ u.taken)
change_keeps b c u = by (is_live u && change_overruns b c u)
  where
    by : (x : Bool)
        → ((overrun_if b u x).port ≡ u.port) × ((overrun_if b u x).put ≡ u.put)
        × ((overrun_if b u x).taken ≡ u.taken)
    by true = (refl, refl, refl)
    by false = (refl, refl, refl)

-- the puts after it
slot_last : (b d : Book) (c : Change_) (o n : Option Subscription) (q : KnownSlot Identity)
    → IsWithin d n q → HasPlaces o → SlotPuts d (λ u. after_change b c (after_notice b u)) o n q
    → (acts : List Act) × ArePutsAndTakes acts
    × SlotActsLead d (option_map (after_change b c) (mid_of b o q)) acts
    (slot_shown (taken_known n) n q)
slot_last b d c None n q within places is = ([], tt, (refl, rw is refl))
slot_last b d c (Some s) None q within places is = absurd is
slot_last b d c (Some s) (Some t) q within places is =
    let u : Subscribed = known_subscription s q in
    let v : Subscribed = known_subscription t q in
    let keeps = notice_keeps b u in
    let stays = change_keeps b c (after_notice b u) in
    let long = length-append s.input.taken s.input.ahead in
    let puts = puts_run d (after_change b c (after_notice b u)) v is
    (omega (arith, keeps.0, stays.0, places))
    (omega (arith, keeps.1, keeps.2, stays.1, stays.2, long)) within in (
      puts.0,
      puts_takes d puts.0 (after_change b c (after_notice b u)) v puts.1,
      (v, refl, moved d puts.0 (after_change b c (after_notice b u)) v puts.1),
    )

-- a map of a map over a range
map_range : {A B : Type 0} (h : A → B) (m : ℕ → A) (n a : ℕ)
    → map h (map m (range_with_len a n)) ≡ map (λ i. h (m i)) (range_with_len a n)
map_range h m zero a = refl
map_range {B = B} h m (suc n) a = ap (λ (l : List B). h (m a) ∷ l) (map_range h m n (a + 1))

-- a change that is made
pub made_runs : MadeAreRuns
made_runs old new c book openings lawful places within rises is =
    let b = old.keeper.book in
    let d : Book = grown b (c ∷ []) in
    let f : ℕ → Option Subscribed = λ i. slot_shown (taken_known (slot_in old.subscriptions i))
    (slot_in old.subscriptions i) (slot_at old.keeper.slots (i + 1)) in
    let g : ℕ → Option Subscribed = λ i. slot_shown (taken_known (slot_in new.subscriptions i))
    (slot_in new.subscriptions i) (slot_at new.keeper.slots (i + 1)) in
    let m : ℕ → Option Subscribed =
    λ i. mid_of b (slot_in old.subscriptions i) (slot_at new.keeper.slots (i + 1)) in
    let h : ℕ → Option Subscribed = λ i. option_map (after_change b c) (m i) in
    let one = range_facts (λ i. IsNoticing (slot_in old.subscriptions i)) b f m 64 0
    (λ i low. slot_first b (slot_in old.subscriptions i)
    (slot_at old.keeper.slots (i + 1)) (slot_at new.keeper.slots (i + 1)) (rises (i + 1))) in
    let two = range_facts (λ i. ArePutsAndTakes) d h g 64 0 (λ i low. slot_last b d c
    (slot_in old.subscriptions i)
    (slot_in new.subscriptions i) (slot_at new.keeper.slots (i + 1)) (within i low) (places i low)
    (is i low)) in
    let mid : World = record (world_known old) { slots = map m (range_with_len 0 64) } in
    let then : World = record mid { book = d; slots = map h (range_with_len 0 64) } in
    let first = acts_run (world_known old) one.0 (map m (range_with_len 0 64)) one.2 in
    let step : then ≡ next mid (Change c) =
    sym (ap (λ (o : Option Refusal). (changing mid c o).1) lawful
    ∙ ap (λ (slots : List (Option Subscribed)). record mid { book = d; slots = slots })
    (map_range (option_map (after_change b c)) m 64 0)) in
    let last = acts_run then two.0 (world_known new).slots two.2 in
    let end : record then { slots = (world_known new).slots } ≡ world_known new =
    λ i. record {
      book = sym book i;
      openings = sym openings i;
      slots = (world_known new).slots;
    } in
    let more : Run then (events_of_acts 1 two.0) last.0 (world_known new) =
    subst (λ (w : World). Run then (events_of_acts 1 two.0) last.0 w) end last.1 in
    record {
      notices = one.0;
      noticing = one.1;
      puts = two.0;
      putting = two.1;
      mid = mid;
      first = first.0;
      before = first.1;
      answer = ap (λ (o : Option Refusal). (changing mid c o).0) lawful;
      last = last.0;
      after = subst (λ (w : World). Run w (events_of_acts 1 two.0) last.0 (world_known new)) step
          more;
    }
