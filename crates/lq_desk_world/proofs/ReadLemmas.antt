-- The book of a run, and what each step of a run reads of one slot.
use Rattle.std.proofs.Common.{◌≡◌, ◌≢◌, ℕ, suc, ◌+◌, List, [], ◌∷◌, ◌++◌, refl, ap, ◌∙◌, sym, subst, arith, append_assoc, append-nil, Some, None, Option, inl, inr, true, false}
use Rattle.std.specs.Prelude.{slice_get, ◌⊎◌}
use Rattle.std.specs.Option.{option_map}
use Rattle.std.proofs.lemmas.Bool.{cases_eq}
use Rattle.std.proofs.lemmas.Option.{slice_get-map}
use Rattle.lq_value.specs.declared.refusal.Refusal.{Refusal}
use Rattle.lq_volume.specs.declared.change.Change.{Change as Change_}
use Rattle.lq_volume.specs.State.{State}
use Rattle.lq_volume.specs.Change.{after}
use Rattle.lq_volume.specs.Book.{AreLawful, Book, after_all, grown, state_of}
use Rattle.lq_update.specs.Options.{options_of}
use Rattle.lq_update.specs.Laws.{ChangesAddSteps, UpdatesStay}
use Rattle.lq_desk_world.specs.World.{World, Subscribed, after_change, taken_before_free, with_slot}
use Rattle.lq_desk_world.specs.declared.event.Event.{Event}
use Rattle.lq_desk_world.specs.declared.event.Event.TheVariants.{Change}
use Rattle.lq_desk_world.specs.declared.event.Act.{Act}
use Rattle.lq_desk_world.specs.declared.event.Act.TheVariants as act
use Rattle.lq_desk_world.specs.Events.{Answer, Refused, acting, event_at, opened_now, with_sub}
use Rattle.lq_desk_world.specs.Runs.{Step, Run}
use Rattle.lq_desk_world.specs.Fair.{IsFair}
use Rattle.lq_desk_world.specs.Headline.{read_by, frees, accepted_by, accepted}
use Rattle.lq_desk_world.proofs.ListLemmas.{slice_get-set_here, slice_get-set_other}
use Rattle.std.proofs.lemmas.List.Sums.{fold-append}
use Rattle.lq_desk_world.proofs.SubLemmas.{IsOver, Reads, after_change-taken, keeps-change}
use Rattle.lq_desk_world.proofs.TakenLemmas.{reads-nothing, reads-self, taken_within}
use Rattle.lq_desk_world.proofs.StepLemmas.{act-apart, acting-passes, frees-refused, step-cases}

-- ---- the book of a run

-- a book to which nothing is added is the same book
same_book : (b : Book) → b ≡ grown b []
same_book b = ap (λ cs. record { start = b.start; changes = cs }) (sym (append-nil b.changes))

-- these changes lead from a world's book to another, and are lawful in the state that they meet
abbrev Adds : World → List Change_ → Book → Type 0
Adds w cs b = (b ≡ grown w.book cs) × AreLawful (state_of w.book) cs

-- none lead to the same book
adds-nothing : (w : World) (cs : List Change_) → cs ≡ [] → Adds w cs w.book
adds-nothing w cs none = rw none (same_book w.book, tt)

-- an event that is refused accepts no change
accepted_by-refused : (e : Event) (r : Refusal) → accepted_by e (Refused r) ≡ []
accepted_by-refused (Change c) r = refl
accepted_by-refused e r = refl

-- nor does an act at a slot
accepted_by-act : (k : ℕ) (x : Act) (a : Answer) → accepted_by (event_at k x) a ≡ []
accepted_by-act k act.Put a = refl
accepted_by-act k x a = refl

-- a step adds to the book what it accepts
step-adds : (w : World) (e : Event) (a : Answer) (v : World) → Step w e a v
    → Adds w (accepted_by e a) v.book
step-adds w = step-cases w (λ e a v. Adds w (accepted_by e a) v.book)
    (λ e r none. adds-nothing w _ (accepted_by-refused e r)) (λ c is. (refl, (is, tt)))
    (λ q port backlog moved none. adds-nothing w [] refl) (λ q o none. adds-nothing w [] refl)
    (λ i x s at. adds-nothing w _ (accepted_by-act (i + 1) x (acting w.book x s).0))

-- after a run the book has the accepted changes at its end
pub run-book : (w : World) (events : List Event) (answers : List Answer) (end : World)
    → Run w events answers end → end.book ≡ grown w.book (accepted events answers)
run-book w [] [] end run = ap (λ (v : World). v.book) run ∙ same_book w.book
run-book w (e ∷ events) (a ∷ answers) end run =
    run-book run.0 events answers end run.2
    ∙ (ap (λ b. grown b (accepted events answers)) (step-adds w e a run.0 run.1).0
    ∙ ap (λ cs. record { start = w.book.start; changes = cs })
    (append_assoc w.book.changes (accepted_by e a) (accepted events answers)))
run-book w events answers end run = absurd run

-- lawful changes and then others, lawful from where those lead, are lawful together
are-lawful-append : (s : State) (cs ds : List Change_)
    → AreLawful s cs → AreLawful (after_all s cs) ds → AreLawful s (cs ++ ds)
are-lawful-append s [] ds h g = g
are-lawful-append s (c ∷ cs) ds h g = (h.0, are-lawful-append (after s c) cs ds h.1 g)

-- what a run adds to the book is lawful from the state that it meets
pub run-lawful : (w end : World) (events : List Event) (answers : List Answer)
    → Run w events answers end → AreLawful (state_of w.book) (accepted events answers)
run-lawful w end [] [] run = tt
run-lawful w end (e ∷ events) (a ∷ answers) run =
    let adds = step-adds w e a run.0 run.1 in
    let there : state_of run.0.book ≡ after_all (state_of w.book) (accepted_by e a) =
    ap state_of adds.0 ∙ fold-append after w.book.start w.book.changes (accepted_by e a) in
    are-lawful-append (state_of w.book) (accepted_by e a) (accepted events answers) adds.1
    (subst (λ (s : State). AreLawful s (accepted events answers)) there
    (run-lawful run.0 end events answers run.2))
run-lawful w end events answers run = absurd run

-- ---- one event

-- the subscription stands at this place
pub record Stands (w : World) (i : ℕ) (s : Subscribed) : Type 0 where
  pub here : slice_get w.slots i ≡ Some (Some s)
  pub fair : IsFair w.book s

-- from w to v it goes on at its place, and these reads were answered
pub record Goes (w : World) (i : ℕ) (s : Subscribed) (reads : List Answer)
    (v : World) : Type 0 where
  pub sub : Subscribed
  pub here : slice_get v.slots i ≡ Some (Some sub)
  pub does : Reads w.book s v.book sub reads

-- it goes on, or it was over and its slot is free
abbrev pub Passes : World → ℕ → Subscribed → Event → Answer → World → Type 0
Passes w i s e a v = ((frees (i + 1) e a ≡ true) × IsOver w.book s)
    ⊎ ((frees (i + 1) e a ≡ false) × Goes w i s (read_by (i + 1) e a) v)

-- where it is left as it was, in its slot, nothing is read
rests : (w v : World) (i : ℕ) (s : Subscribed) → Stands w i s → v.book ≡ w.book
    → slice_get v.slots i ≡ slice_get w.slots i → Goes w i s [] v
rests w v i s h book same = record {
  sub = s;
  here = same ∙ h.here;
  does = subst (λ (b : Book). Reads w.book s b s []) (sym book) (reads-self w.book s h.fair);
}

-- the lowest free place is no taken one
free_is_free : (slots : List (Option Subscribed)) (s : Subscribed)
    → slice_get slots (taken_before_free slots) ≡ Some (Some s) → ⊥
free_is_free [] s h = cc
free_is_free (None ∷ slots) s h = cc
free_is_free (Some t ∷ slots) s h =
    let e : suc (taken_before_free slots) ≡ taken_before_free slots + 1 = omega arith in
    free_is_free slots s (ap (slice_get (Some t ∷ slots)) e ∙ h)

-- an act at this slot
own-passes : (w : World) (i : ℕ) (s : Subscribed) (x : Act) → Stands w i s
    → Passes w i s (event_at (i + 1) x) (acting w.book x s).0
    (with_slot w i (acting w.book x s).1)
own-passes w i s x h = elim (acting-passes w.book s (i + 1) x h.fair) [
  | inl gone ↦ inl (gone.0, gone.3)
  | inr left ↦ inr (
    left.0,
    record {
      sub = left.1.sub;
      here = slice_get-set_here w.slots i (Some s) _ h.here ∙ ap (λ o. Some o) left.1.is;
      does = left.1.does;
    },
  )
]

module _ (stay : UpdatesStay) (add : ChangesAddSteps) where
  -- each step leaves this slot's reads, gives one more, or frees the slot
  pub step-goes : (w : World) (i : ℕ) (s : Subscribed) (e : Event) (a : Answer) (v : World)
      → Stands w i s → Step w e a v → Passes w i s e a v
  step-goes w i s e a v h = step-cases w (Passes w i s)
      (λ e r none. inr (
        frees-refused (i + 1) e r,
        rw (none i s h.here) (rests w w i s h refl refl),
      ))
      (λ c none. inr (
        refl,
        record {
          sub = after_change w.book c s;
          here = slice_get-map (option_map (after_change w.book c)) w.slots i
              ∙ ap (option_map (option_map (after_change w.book c))) h.here;
          does = reads-nothing w.book s (grown w.book (c ∷ [])) (after_change w.book c s)
              (taken_within w.book s h.fair) (after_change-taken w.book c s)
              (keeps-change stay add w.book c s h.fair);
        },
      ))
      (λ q port backlog moved none. inr (opens (opened_now w q (options_of port backlog moved))))
      (λ q o none. inr (opens (opened_now w q o)))
      (λ j x t at. acted j x t at (cases_eq j i)) e a v
    where
      -- an opening takes another slot
      opens : (t : Subscribed) → (false ≡ false) × Goes w i s [] (with_sub w t)
      opens t = (
        refl,
        rests w _ i s h refl
            (slice_get-set_other w.slots i (taken_before_free w.slots) _
            (λ same. free_is_free w.slots s (ap (slice_get w.slots) (sym same) ∙ h.here))),
      )

      acted : (j : ℕ) (x : Act) (t : Subscribed) → slice_get w.slots j ≡ Some (Some t)
          → (j ≡ i) ⊎ (j ≢ i)
          → Passes w i s (event_at (j + 1) x) (acting w.book x t).0
          (with_slot w j (acting w.book x t).1)
      acted j x t at (inl own) =
          let found : Some (Some t) ≡ Some (Some s) =
          sym at ∙ (ap (slice_get w.slots) own ∙ h.here) in
          let same : t ≡ s = cc in
          rw (own, same) (own-passes w i s x h)
      acted j x t at (inr other) =
          let apart = act-apart (i + 1) (j + 1) x (acting w.book x t).0
          (λ e. other (omega (arith, e))) in
          inr (
            apart.0,
            rw apart.1 (rests w _ i s h refl
                (slice_get-set_other w.slots i j _ (λ e. other (sym e)))),
          )
