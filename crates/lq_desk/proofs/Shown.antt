-- What a desk keeps where a world stands does at each event what the world does.
use Rattle.std.proofs.Common.{◌≡◌, ℕ, zero, suc, ◌+◌, ◌-◌, List, [], ◌∷◌, refl, ap, ◌∙◌, sym, arith, Some, None, Option, map, inl, inr}
use Rattle.std.proofs.Math.Nat.{sub_self}
use Rattle.std.specs.Option.{option_map}
use Rattle.std.proofs.lemmas.List.{length-map, map-set}
use Rattle.std.proofs.lemmas.Option.{slice_get-map}
use Rattle.lq_value.specs.declared.refusal.Refusal.{Refusal}
use Rattle.lq_predicate.specs.Query.{Query}
use Rattle.lq_volume.specs.declared.change.Change.{Change as Change_}
use Rattle.lq_volume.specs.Change.{after, refused as refused_by}
use Rattle.lq_volume.specs.Laws.{ChangesCount}
use Rattle.lq_volume.specs.Book.{Book, grown, number_of, state_of}
use Rattle.lq_update.specs.declared.open_options.OpenOptions.{OpenOptions}
use Rattle.lq_update.specs.Options.{options_of}
use Rattle.lq_update.specs.Laws.{ChangesAddSteps, UpdatesStay}
use Rattle.lq_desk_world.specs.World.{World, Subscribed, subscribed_at, after_change, taken_before_free}
use Rattle.lq_desk_world.specs.declared.event.Event.{Event}
use Rattle.lq_desk_world.specs.declared.event.Event.TheVariants.{Change, Open, OpenBy, Put, Take, HangUp, Notice, Close, Finish}
use Rattle.lq_desk_world.specs.declared.event.Act.{Act}
use Rattle.lq_desk_world.specs.declared.event.Act.TheVariants as act
use Rattle.lq_desk_world.specs.Events.{Answer, Refused, changing, opening, opened_now, open_refusal, at_slot, acting, act_outcome, answer_to, next}
use Rattle.lq_desk_world.specs.Runs.{MayRunOut, Step}
use Rattle.lq_desk_world.specs.Fair.{AreFair, IsFair, IsFairWorld}
use Rattle.lq_desk_world.specs.Laws.{RefusalsLeaveWorlds, RunsKeepWorldsFair}
use Rattle.lq_desk.specs.Slot.{KeptSlot, fresh_slot, slot_after}
use Rattle.lq_desk.specs.Act.{act_of}
use Rattle.lq_desk.specs.DeskState.{DeskState, Shows, KeptMayRunOut, KeptStep, kept_of, slot_for, kept_at, at_index, kept_act, opening_refusal, open_if, change_if, kept_outcome}
use Rattle.lq_desk.specs.Turn.{stepped}
use Rattle.lq_desk.specs.Laws.{KeptShowsWorlds}
use Rattle.lq_desk.proofs.ListLemmas.{slot-there}
use Rattle.std.proofs.lemmas.List.Sums.{fold-append}
use Rattle.lq_desk.proofs.EndLemmas.{act-same, change-same}

-- ---- an event of one slot

-- what is in a slot is what the world's subscription there leaves
kept_at-same : (w : World) (slot : ℕ)
    → kept_at (kept_of w) slot ≡ option_map (slot_for w.book) (subscribed_at w slot)
kept_at-same w slot =
    grind (arith, slice_get-map (option_map (slot_for w.book)) w.slots (slot - 1))

-- ---- an opening

-- the first free slot of the desk is that of the world
free-same : (b : Book) (os : List (Option Subscribed))
    → taken_before_free (map (option_map (slot_for b)) os) ≡ taken_before_free os
free-same b [] = refl
free-same b (None ∷ os) = refl
free-same b (Some s ∷ os) = ap (λ n. n + 1) (free-same b os)

-- an opening is refused alike
refusal-same : (w : World) (port backlog : ℕ)
    → opening_refusal (kept_of w) port backlog ≡ open_refusal w port backlog
refusal-same w port backlog =
    rw (length-map w.slots (option_map (slot_for w.book)), free-same w.book w.slots)

-- where each change counts one
module _ (count : ChangesCount) where
  -- the number of the book's state is the book's
  numbered : (b : Book) → (state_of b).number ≡ number_of b
  numbered b = count b.start b.changes

  -- a slot as it is opened is what the new subscription leaves
  fresh-same : (w : World) (q : Query) (o : OpenOptions)
      → fresh_slot q (state_of w.book).number o ≡ slot_for w.book (opened_now w q o)
  fresh-same w q o = rw (numbered w.book, sub_self (number_of w.book))

  -- an opening is answered alike
  opening-same : (w : World) (q : Query) (o : OpenOptions) (r : Option Refusal)
      → open_if (kept_of w) (fresh_slot q (state_of w.book).number o) r
      ≡ ((opening w (opened_now w q o) r).0, kept_of (opening w (opened_now w q o) r).1)
  opening-same w q o (Some e) = refl
  opening-same w q o None =
      let f = option_map (slot_for w.book) in
      let place = taken_before_free w.slots in
      ap (λ (t : KeptSlot). open_if (kept_of w) t None) (fresh-same w q o)
      ∙ rw (
        free-same w.book w.slots,
        map-set f w.slots place (Some (opened_now w q o)),
        numbered w.book,
      )

  -- ---- a change

  -- and update lists stay as books grow, and grow by steps
  module _ (stay : UpdatesStay) (add : ChangesAddSteps) where
    -- a change leaves in each slot what the world's subscriptions leave after it
    changed-slots : (b : Book) (c : Change_) (os : List (Option Subscribed))
        → AreFair b os
        → map (option_map (slot_after (state_of b) c)) (map (option_map (slot_for b)) os)
        ≡ map (option_map (slot_for (grown b (c ∷ [])))) (map (option_map (after_change b c)) os)
    changed-slots b c [] h = refl
    changed-slots b c (None ∷ os) h =
        ap (λ ks. None ∷ ks) (changed-slots b c os (λ i. h (suc i)))
    changed-slots b c (Some s ∷ os) h =
        cc (
          change-same stay add b c s (h zero s refl) (numbered b),
          changed-slots b c os (λ i. h (suc i)),
        )

    -- a change is answered alike
    changing-same : (w : World) (c : Change_) → IsFairWorld w → (r : Option Refusal)
        → change_if (kept_of w) c r ≡ ((changing w c r).0, kept_of (changing w c r).1)
    changing-same w c fair (Some e) = refl
    changing-same w c fair None =
        rw (
          changed-slots w.book c w.slots fair.each,
          fold-append after w.book.start w.book.changes (c ∷ []),
          numbered w.book,
        )

    -- ---- all events

    -- an act is answered alike
    acting-same : (w : World) → IsFairWorld w → (slot : ℕ) (a : Act)
        → kept_act (kept_of w) slot a
        ≡ ((act_outcome w slot a).0, kept_of (act_outcome w slot a).1)
    acting-same w fair slot a =
        ap (λ o. at_index (kept_of w) (slot - 1) o (act_of (state_of w.book).number a))
        (kept_at-same w slot) ∙ by (subscribed_at w slot) refl
      where
        by : (o : Option Subscribed) → subscribed_at w slot ≡ o
            → at_index (kept_of w) (slot - 1) (option_map (slot_for w.book) o)
            (act_of (state_of w.book).number a)
            ≡ (
              (at_slot w slot o (acting w.book a)).0,
              kept_of (at_slot w slot o (acting w.book a)).1,
            )
        by None is = refl
        by (Some s) is =
            let f : IsFair w.book s =
            fair.each (slot - 1) s (slot-there w.slots slot s is) in
            rw (
              numbered w.book,
              act-same w.book a s f,
              map-set (option_map (slot_for w.book)) w.slots (slot - 1) (acting w.book a s).1,
            )

    -- an opening that may be refused is answered alike
    opens-same : (w : World) (q : Query) (o : OpenOptions)
        → open_if (kept_of w) (fresh_slot q (state_of w.book).number o)
        (opening_refusal (kept_of w) o.port o.backlog)
        ≡ (
          (opening w (opened_now w q o) (open_refusal w o.port o.backlog)).0,
          kept_of (opening w (opened_now w q o) (open_refusal w o.port o.backlog)).1,
        )
    opens-same w q o =
        ap (open_if (kept_of w) (fresh_slot q (state_of w.book).number o))
        (refusal-same w o.port o.backlog)
        ∙ opening-same w q o (open_refusal w o.port o.backlog)

    -- each event is answered alike
    outcome-same : (w : World) (e : Event) → IsFairWorld w
        → kept_outcome (kept_of w) e ≡ (answer_to w e, kept_of (next w e))
    outcome-same w (Change c) fair = changing-same w c fair (refused_by (state_of w.book) c)
    outcome-same w (Open q port backlog moved) fair =
        opens-same w q (options_of port backlog moved)
    outcome-same w (OpenBy q o) fair = opens-same w q o
    outcome-same w (Put slot) fair = acting-same w fair slot act.Put
    outcome-same w (Take slot) fair = acting-same w fair slot act.Take
    outcome-same w (HangUp slot) fair = acting-same w fair slot act.HangUp
    outcome-same w (Notice slot) fair = acting-same w fair slot act.Notice
    outcome-same w (Close slot) fair = acting-same w fair slot act.Close
    outcome-same w (Finish slot) fair = acting-same w fair slot act.Finish

    -- and where fair worlds stay fair, what is kept shows a world, and the next after each event
    pub kept-shows : RunsKeepWorldsFair → KeptShowsWorlds
    kept-shows stays k w e shows =
        let same : kept_outcome k e ≡ (answer_to w e, kept_of (next w e)) =
        rw shows.kept (outcome-same w e shows.fair) in (
          ap (λ (r : Answer × DeskState). r.0) same,
          record {
            fair = stays w (next w e) (e ∷ []) (answer_to w e ∷ []) shows.fair
                (next w e, inl (refl, refl), refl);
            kept = ap (λ (r : Answer × DeskState). r.1) same;
          },
        )

-- ---- the world after an event, by its answer

-- where the answer is the world's, it is the next world
pub stepped-next : RefusalsLeaveWorlds → (w : World) (e : Event) (a : Answer) → a ≡ answer_to w e
    → stepped w e a ≡ next w e
stepped-next law w e (Refused r) is = sym (law w e r (sym is))
stepped-next law w e _ is = refl

-- a step whose event was refused leaves the world
pub refused-stays : RefusalsLeaveWorlds → (w v : World) (e : Event) (a : Answer) (r : Refusal)
    → Step w e a v → a ≡ Refused r → v ≡ w
refused-stays law w v e a r (inl done) is = done.1 ∙ law w e r (sym done.0 ∙ is)
refused-stays law w v e a r (inr ran) is = ran.2

-- what may run out in the desk may in the world
runs_out : (w : World) (e : Event) → KeptMayRunOut (kept_of w) e → MayRunOut w e
runs_out w (Open q port backlog moved) is = sym (refusal-same w port backlog) ∙ is
runs_out w (OpenBy q o) is = sym (refusal-same w o.port o.backlog) ∙ is
runs_out w _ is = is

-- where both answer alike, a step of what is kept is a step of each world that it shows
pub moves : KeptShowsWorlds → RefusalsLeaveWorlds → (old new : DeskState) (w : World) (e : Event)
    (a : Answer) → KeptStep old e a new → Shows old w
    → Step w e a (stepped w e a) × Shows new (stepped w e a)
moves alike law old new w e a (inl done) shows =
    let same = alike old w e shows in
    let is : a ≡ answer_to w e = done.0 ∙ same.0 in
    let to = stepped-next law w e a is in
    (inl (is, to), rw (to, done.1) same.1)
moves alike law old new w e a (inr ran) shows =
    let stays : stepped w e a ≡ w = ap (stepped w e) ran.1 in (
      inr (runs_out w e (rw shows.kept at ran.0), ran.1, stays),
      rw (stays, ran.2) shows,
    )
