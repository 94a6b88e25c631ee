-- An opening in a run, and what comes of its subscription.
use Rattle.std.proofs.Common.{◌≡◌, ℕ, ◌+◌, List, [], ◌∷◌, ◌++◌, refl, ap, take, length, ◌∙◌, sym, subst, arith, Some, None, Option, inl, inr}
use Rattle.std.proofs.lemmas.Option.{slice_get-get_or}
use Rattle.lq_value.specs.declared.refusal.Refusal.{Refusal}
use Rattle.lq_value.specs.declared.entry.Entry.{Entry}
use Rattle.lq_predicate.specs.Query.{Query}
use Rattle.lq_volume.specs.Result.{result_of}
use Rattle.lq_volume.specs.Book.{number_of, state_of}
use Rattle.lq_update.specs.declared.open_options.OpenOptions.{OpenOptions}
use Rattle.lq_update.specs.Laws.{ChangesAddSteps, UpdatesStay}
use Rattle.lq_desk_world.specs.World.{World, Subscribed, taken_before_free, whole, in_port, to_come, subscribed_at}
use Rattle.lq_desk_world.specs.declared.event.Event.{Event}
use Rattle.lq_desk_world.specs.declared.event.Event.TheVariants.{Open, OpenBy}
use Rattle.lq_desk_world.specs.Events.{Answer, Opened, asked_to_open, opening, opened_now, open_refusal, outcome, with_sub}
use Rattle.lq_desk_world.specs.Runs.{Run}
use Rattle.lq_desk_world.specs.Headline.{reads_of, parcels_in}
use Rattle.lq_desk_world.specs.PassedOn.{is_freed}
use Rattle.lq_desk_world.proofs.ListLemmas.{slice_get-set_here}
use Rattle.lq_desk_world.proofs.ReadLemmas.{Stands}
use Rattle.lq_desk_world.proofs.RunLemmas.{Ran, run-ran}
use Rattle.lq_desk_world.proofs.SubLemmas.{over-true}
use Rattle.lq_desk_world.specs.Laws.{ReadsArePassedOn}
use Rattle.lq_desk_world.proofs.TakenLemmas.{lists-passed}
use Rattle.std.specs.Option.{option_flatten}
use Rattle.lq_desk_world.proofs.StepLemmas.{at-index, may_open, opened-fair}

-- a run goes on where its first part ends
pub run_parts : (w : World) (before events : List Event)
    (befores answers : List Answer) (end : World)
    → length before ≡ length befores → Run w (before ++ events) (befores ++ answers) end
    → (mid : World) × Run w before befores mid × Run mid events answers end
run_parts w [] events [] answers end same run = (w, refl, run)
run_parts w (e ∷ before) events (a ∷ befores) answers end same run =
    let rest = run_parts run.0 before events befores answers end (omega arith) run.2 in
    (rest.0, (run.0, run.1, rest.1), rest.2)
run_parts w before events befores answers end same run = absurd (omega arith)

-- ---- an opening that was answered as one

-- its slot, its number and its result, and what was read from then on
abbrev pub RanFrom : World → Subscribed → ℕ → ℕ → List Entry → List Event → List Answer → World
    → Type 0
RanFrom w s slot at first events answers end = (i : ℕ) × (slot ≡ i + 1) × (at ≡ number_of w.book)
    × (first ≡ result_of s.query (state_of w.book))
    × Ran w.book s end i (reads_of slot events answers) (is_freed slot events answers)

-- the outcome of an opening is that of what it asks for
pub asks-outcome : (w : World) (e : Event) (q : Query) (o : OpenOptions)
    → asked_to_open e ≡ Some (q, o)
    → outcome w e ≡ opening w (opened_now w q o) (open_refusal w o.port o.backlog)
asks-outcome w (Open p port backlog moved) q o asks =
    ap (λ (x : Option (Query × OpenOptions)). by x) asks
  where
    by : Option (Query × OpenOptions) → Answer × World
    by None = outcome w (Open p port backlog moved)
    by (Some x) = opening w (opened_now w x.0 x.1) (open_refusal w x.1.port x.1.backlog)
asks-outcome w (OpenBy p options) q o asks =
    ap (λ (x : Option (Query × OpenOptions)). by x) asks
  where
    by : Option (Query × OpenOptions) → Answer × World
    by None = outcome w (OpenBy p options)
    by (Some x) = opening w (opened_now w x.0 x.1) (open_refusal w x.1.port x.1.backlog)
asks-outcome w e q o asks = absurd (let no : ⊥ = cc in no)

-- what comes of a subscription from its opening on
pub opened-ran : UpdatesStay → ChangesAddSteps → (w : World) (e : Event) (q : Query)
    (o : OpenOptions) (slot at : ℕ) (first : List Entry) (events : List Event)
    (answers : List Answer) (end : World)
    → asked_to_open e ≡ Some (q, o)
    → Run w (e ∷ events) (Opened slot at first ∷ answers) end
    → RanFrom w (opened_now w q o) slot at first events answers end
opened-ran stay add w e q o slot at first events answers end asks (v, inr ran, run) =
    absurd (let e = ran.1 in let no : ⊥ = cc in no)
opened-ran stay add w e q o slot at first events answers end asks (v, inl done, run) =
    by (open_refusal w o.port o.backlog) refl (done.0 ∙ ap (λ x. x.0) outcome_is)
    (done.1 ∙ ap (λ x. x.1) outcome_is)
  where
    s : Subscribed
    s = opened_now w q o

    i : ℕ
    i = taken_before_free w.slots

    outcome_is : outcome w e ≡ opening w s (open_refusal w o.port o.backlog)
    outcome_is = asks-outcome w e q o asks

    by : (r : Option Refusal) → open_refusal w o.port o.backlog ≡ r
        → Opened slot at first ≡ (opening w s r).0 → v ≡ (opening w s r).1
        → RanFrom w s slot at first events answers end
    by (Some e) none told is = absurd (let no : ⊥ = cc in no)
    by None none told is =
        let may = may_open w o.port o.backlog none in
        let stands : Stands (with_sub w s) i s = record {
          here = slice_get-set_here w.slots i _ (Some s) (slice_get-get_or w.slots i None may.free);
          fair = opened-fair w q o may;
        } in
        let slot_is : slot ≡ i + 1 = cc in (
          i,
          slot_is,
          cc,
          cc,
          subst (λ (k : ℕ). Ran w.book s end i (reads_of k events answers)
              (is_freed k events answers)) (sym slot_is)
              (run-ran stay add (with_sub w s) i s events answers end stands
              (subst (λ (u : World). Run u events answers end) is run)),
        )

-- the list of each subscription that a run opens is passed on
pub reads-passed : UpdatesStay → ChangesAddSteps → ReadsArePassedOn
reads-passed stay add w end before after befores afters e q o slot at first asks run same =
    let parts = run_parts w before (e ∷ after) befores (Opened slot at first ∷ afters) end same
    run in
    let opened = opened-ran stay add parts.0 e q o slot at first after afters end asks parts.2 in
    let ran = opened.4 in
    let t = ran.sub in
    let taken : parcels_in (reads_of slot after afters) ≡ take t.taken (whole end.book t) =
    ran.front in
    record {
      sub = t;
      same = (
        ap (λ l. l.0) ran.same,
        ap (λ l. l.1) ran.same,
        ap (λ l. l.2) ran.same ∙ sym opened.2,
      );
      here = λ free. ap (subscribed_at end) opened.1
          ∙ (at-index end opened.0 ∙ ap option_flatten (ran.here free));
      over = λ gone. over-true end.book t (ran.gone gone);
      taken = taken;
      parts = ap (λ ps. ps ++ (in_port end.book t ++ to_come end.book t)) taken
          ∙ lists-passed end.book t ran.fair;
    }
