-- The turns of a desk.
use Rattle.std.proofs.Common.{◌≡◌, ℕ, ◌+◌, ◌-◌, List, [], ◌∷◌, ◌++◌, refl, ap, append_assoc, map, length, ◌∙◌, sym, arith, Some, None, Option, false, inl, inr}
use Rattle.std.specs.Prelude.{◌⊎◌, ◌==◌, slice_set}
use Rattle.std.specs.Option.{option_map}
use Rattle.std.proofs.lemmas.Bool.Decides.{nat_tests}
use Rattle.std.proofs.lemmas.List.{length_push, set_at}
use Rattle.std.proofs.lemmas.List.Sums.{fold-append}
use Rattle.lq_value.specs.declared.refusal.Refusal.{Refusal}
use Rattle.lq_value.specs.declared.refusal.Refusal.TheVariants.{NoMemory}
use Rattle.lq_volume.specs.declared.change.Change.{Change as Change_}
use Rattle.lq_volume.specs.Change.{refused}
use Rattle.lq_desk_world.specs.World.{World, Subscribed}
use Rattle.lq_desk_world.specs.declared.event.Event.{Event}
use Rattle.lq_desk_world.specs.declared.event.Event.TheVariants.{Change, Take, Notice, Close}
use Rattle.lq_desk_world.specs.Events.{Answer, Refused, outcome, next}
use Rattle.lq_desk_world.specs.Laws.{RefusalsLeaveWorlds}
use Rattle.lq_desk_world.specs.Turns.{turn_of, ports_of, at_slot_of, at_each, one_notice, put_events, notices, all_puts, after_events, carried_out, turn_outcome}
use Rattle.lq_desk.specs.Slot.{KeptSlot, filled, noticed, slot_after}
use Rattle.lq_desk.specs.Act.{close_turn, read_turn}
use Rattle.lq_desk.specs.DeskState.{DeskState, KeptStep, Shows, slot_for, kept_at, at_kept, kept_outcome, change_if}
use Rattle.lq_desk.specs.Turn.{TurnRuns, stepped, world_after_turn}
use Rattle.lq_desk.specs.KeptTurn.{slot_port, kept_ports, kept_turn, kept_turn_outcome, kept_after, TurnStep}
use Rattle.lq_desk.specs.Laws.{KeptShowsWorlds}
use Rattle.lq_desk.proofs.ListLemmas.{get-seam, map-slots}
use Rattle.lq_desk.proofs.PutLemmas.{noticed-keeps}
use Rattle.lq_desk.proofs.RunLemmas.{run-along, run-join}
use Rattle.lq_desk.proofs.Shown.{moves}
use Rattle.lq_desk.proofs.EventLemmas.{at-slots, notice-taken, puts-taken}
use Rattle.lq_desk.proofs.SlotTurnLemmas.{close-events, read-events}

-- ---- one slot after another

-- of events that do the same in each slot
module _ (events : ℕ → ℕ → List Event) (f : KeptSlot → KeptSlot) (k : DeskState)
    (does : (ks : List (Option KeptSlot)) (slot : ℕ) (s : KeptSlot)
    → kept_at (at-slots k ks) slot ≡ Some s → kept_after (at-slots k ks) (events slot s.port)
    ≡ at-slots k (slice_set ks (slot - 1) (Some (f s)))) where
  -- what is kept, with these slots
  abbrev at : List (Option KeptSlot) → DeskState
  at ks = at-slots k ks

  -- the events of one slot do it there
  here : (pre : List (Option KeptSlot)) (x : Option KeptSlot) (post : List (Option KeptSlot))
      → kept_after (at (pre ++ x ∷ post))
      (at_slot_of events (length pre + 1) (option_map slot_port x))
      ≡ at (pre ++ option_map f x ∷ post)
  here pre None post = refl
  here pre (Some s) post =
      let index : length pre ≡ length pre + 1 - 1 = omega arith in
      let some : (length pre + 1 == 0) ≡ false = grind (arith, nat_tests) in
      let there : kept_at (at (pre ++ Some s ∷ post)) (length pre + 1) ≡ Some s =
      rw (some, ← index, get-seam pre (Some s) post) in
      does (pre ++ Some s ∷ post) (length pre + 1) s there
      ∙ ap at (set_at pre (Some s) post (Some (f s)) (length pre + 1 - 1) index)

  -- the slots before are done, those after are left
  each-does : (pre post : List (Option KeptSlot)) → kept_after (at (pre ++ post))
      (at_each events (length pre + 1) (map (option_map slot_port) post))
      ≡ at (pre ++ map (option_map f) post)
  each-does pre [] = refl
  each-does pre (x ∷ post) =
      let y = option_map f x in
      rw (
        fold-append (λ (k : DeskState) (e : Event). (kept_outcome k e).1) (at (pre ++ x ∷ post))
            (at_slot_of events (length pre + 1) (option_map slot_port x)) _,
        here pre x post,
      )
      (rw (
        append_assoc pre (y ∷ []) post,
        append_assoc pre (y ∷ []) (map (option_map f) post),
        length_push pre y,
      ) at (each-does (pre ++ y ∷ []) post))

-- notices of all slots notice in each
pub noticed-all : (k : DeskState)
    → record k { slots = map (option_map (noticed k.volume.number)) k.slots }
    ≡ kept_after k (notices (kept_ports k))
noticed-all k = sym (each-does one_notice (noticed k.volume.number) k
    (λ ks. notice-taken (at-slots k ks)) [] k.slots)

-- puts at all slots fill each
pub filled-all : (k : DeskState)
    → record k { slots = map (option_map filled) k.slots } ≡ kept_after k (all_puts (kept_ports k))
filled-all k = sym (each-does put_events filled k
    (λ ks slot s. puts-taken s.port (at-slots k ks) slot s) [] k.slots)

-- ---- whole turns

-- a read with what belongs to it is the turn of a read
pub read-step : (k l : DeskState) (slot : ℕ) (a : Answer)
    → (a, l) ≡ at_kept k slot (read_turn k.volume.number) → TurnStep k (Take slot) a l
read-step k l slot a is =
    let same = is ∙ sym (read-events k slot) in
    record {
      middle = l;
      step = inl (
        ap (λ (p : Answer × DeskState). p.0) same,
        ap (λ (p : Answer × DeskState). p.1) same,
      );
      after = refl;
    }

-- a close with what belongs to it is the turn of a close
pub close-step : (k l : DeskState) (slot : ℕ) (a : Answer)
    → (a, l) ≡ at_kept k slot (close_turn k.volume.number) → TurnStep k (Close slot) a l
close-step k l slot a is =
    let same = is ∙ sym (close-events k slot) in
    record {
      middle = (kept_outcome (kept_outcome k (Notice slot)).1 (Close slot)).1;
      step = inl (ap (λ (p : Answer × DeskState). p.0) same, refl);
      after = ap (λ (p : Answer × DeskState). p.1) same;
    }

-- a change keeps the ports, refused or not
ports-changed : (k : DeskState) (c : Change_) (r : Option Refusal)
    → kept_ports (change_if k c r).1 ≡ kept_ports k
ports-changed k c None =
    map-slots (slot_after k.volume c) slot_port slot_port (λ s. grind arith) k.slots
ports-changed k c (Some e) = refl

-- and so does a change where memory may run out
ports-step : (k l : DeskState) (c : Change_) (a : Answer) → KeptStep k (Change c) a l
    → kept_ports l ≡ kept_ports k
ports-step k l c a (inl does) = ap kept_ports does.1 ∙ ports-changed k c (refused k.volume c)
ports-step k l c a (inr ran) = ap kept_ports ran.2

-- notices, a change and puts at all slots are the turn of a change
pub change-turn : (k l m n : DeskState) (c : Change_) (a : Answer)
    → l ≡ kept_after k (notices (kept_ports k)) → KeptStep l (Change c) a m
    → n ≡ kept_after m (all_puts (kept_ports m)) → TurnStep k (Change c) a n
change-turn k l m n c a notice step fill =
    let number = k.volume.number in
    let ports : kept_ports l ≡ kept_ports k =
    rw (notice, ← noticed-all k) (map-slots (noticed number) slot_port slot_port
    (λ s. (noticed-keeps number s).2) k.slots) in
    let same : kept_ports m ≡ kept_ports k = ports-step l m c a step ∙ ports in
    record { middle = m; step = rw notice at step; after = rw same at fill }

-- an event like one with nothing to do about it is a turn alone
pub alone-turn : (k l : DeskState) (e f : Event) (a : Answer) → e ≡ f → (kept_turn k f).before ≡ []
    → (kept_turn k f).after ≡ [] → KeptStep k e a l → TurnStep k e a l
alone-turn k l e f a is before after step = record {
  middle = l;
  step = rw (is, before) (rw is at step);
  after = rw (is, after);
}

-- ---- turns are runs, and worlds take them alike

-- the ports of a desk are those of each world that it shows
ports-same : (k : DeskState) (w : World) → Shows k w → kept_ports k ≡ ports_of w
ports-same k w shows = ap kept_ports shows.kept
    ∙ map-slots (slot_for w.book) slot_port (λ (s : Subscribed). s.port) (λ s. refl) w.slots

-- where what is kept shows a world, and both answer alike
module _ (alike : KeptShowsWorlds) where
  -- they show each other after many events
  after-shows : (k : DeskState) (w : World) (es : List Event) → Shows k w
      → Shows (kept_after k es) (after_events outcome w es)
  after-shows k w [] shows = shows
  after-shows k w (e ∷ es) shows =
      after-shows (kept_outcome k e).1 (next w e) es (alike k w e shows).1

  -- each turn is answered alike
  pub turn-answer : (k : DeskState) (w : World) (e : Event) → Shows k w
      → (kept_turn_outcome k e).0 ≡ (turn_outcome w e).0
  turn-answer k w e shows =
      let turn = turn_of (ports_of w) e in
      ap (λ ps. (carried_out kept_outcome k (turn_of ps e)).0) (ports-same k w shows)
      ∙ (alike (kept_after k turn.before) (after_events outcome w turn.before) turn.event
      (after-shows k w turn.before shows)).0

  -- and refused events leave worlds
  module _ (law : RefusalsLeaveWorlds) where
    -- what is so of a turn that was carried out from a state that shows a world
    pub record Went (w : World) (e : Event) (a : Answer) (l : DeskState) : Type 0 where
      pub shows : Shows l (world_after_turn w e a)
      pub runs : TurnRuns w e a (world_after_turn w e a)
      pub outcome : (a ≡ Refused NoMemory) ⊎ ((a, world_after_turn w e a) ≡ turn_outcome w e)

    -- a turn of a desk
    pub turn-went : (k l : DeskState) (w : World) (e : Event) (a : Answer) → TurnStep k e a l
        → Shows k w → Went w e a l
    turn-went k l w e a done shows =
        let t = turn_of (ports_of w) e in
        let same = ports-same k w shows in
        let step : KeptStep (kept_after k t.before) t.event a done.middle =
        rw same at done.step in
        let mid = after_events outcome w t.before in
        let to = stepped mid t.event a in
        let moved = moves alike law (kept_after k t.before) done.middle mid t.event a step
        (after-shows k w t.before shows) in
        let first = run-along w t.before in
        let last = run-along to t.after in
        record {
          shows = rw (done.after, same) (after-shows done.middle to t.after moved.1);
          runs = record {
            before = first.0;
            after = last.0;
            place = first.1;
            run = run-join w mid (world_after_turn w e a) t.before first.0 (t.event ∷ t.after)
                (a ∷ last.0) first.2 (to, moved.0, last.2);
          };
          outcome = elim moved.0 [
            | inl did ↦ inr (rw (did.1, ← did.0) refl)
            | inr ran ↦ inl ran.1
          ];
        }
