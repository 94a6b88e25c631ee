-- What one event does to one subscription.
use Rattle.std.proofs.Common.{◌≡◌, ℕ, ◌+◌, ◌≤◌, List, [], ◌∷◌, ◌++◌, refl, ap, take, length, ◌∙◌, sym, arith, append_assoc, append-nil, length-append, length-drop, Some, None, Option, inl, inr, map, Bool, true, false}
use Rattle.std.specs.Prelude.{◌⊎◌, ◌==◌, ◌&&◌, nat_lt, is_none, if◌then◌else◌}
use Rattle.std.specs.List.{AllByRecursion}
use Rattle.std.proofs.lemmas.Bool.Decides.{nat_tests}
use Rattle.std.proofs.lemmas.Bool.{and_cases, and_parts, ltb-false}
use Rattle.std.proofs.lemmas.List.{length-map, map-append}
use Rattle.lq_predicate.specs.Query.{Query}
use Rattle.lq_volume.specs.declared.change.Change.{Change as Change_}
use Rattle.lq_volume.specs.Book.{Book, grown, number_of, state_of}
use Rattle.lq_update.specs.declared.open_options.Flags.{Flags}
use Rattle.lq_update.specs.declared.message.Message.{Message}
use Rattle.lq_update.specs.declared.mark.Mark.{Mark}
use Rattle.lq_update.specs.declared.mark.Cause.{Cause}
use Rattle.lq_update.specs.declared.mark.Cause.TheVariants.{Overrun}
use Rattle.lq_update.specs.declared.parcel.Parcel.{Parcel}
use Rattle.lq_update.specs.declared.parcel.Parcel.TheVariants.{Update, Fin}
use Rattle.lq_update.specs.Updates.{updates_of, step_of}
use Rattle.lq_update.specs.Laws.{ChangesAddSteps, UpdatesStay}
use Rattle.lq_desk_world.specs.World.{Subscribed, Ending, covered_by, covered, updates_due, mark_behind, whole, waiting_count, is_live, is_over, with_end, news, change_overruns, overrun_if, after_change}
use Rattle.lq_desk_world.specs.Events.{Answer, Took, Ended}
use Rattle.lq_desk_world.specs.Fair.{IsFair}
use Rattle.lq_desk_world.specs.Headline.{parcels_in}
use Rattle.lq_desk_world.proofs.ListLemmas.{each_bool}

-- one more change has the next number
pub number-grown : (b : Book) (c : Change_) → number_of (grown b (c ∷ [])) ≡ number_of b + 1
number-grown b c = omega (arith, length-append b.changes (c ∷ []))

-- what a subscription keeps from its opening on
abbrev pub opening_of : Subscribed → Query × Flags × ℕ × ℕ
opening_of s = (s.query, s.flags, s.opened, s.port)

-- one subscription at two points
abbrev pub IsSame : Subscribed → Subscribed → Type 0
IsSame s t = opening_of t ≡ opening_of s

-- From a book to one that extends it, it goes on and is fair, and its list
-- grows at the end; one that has ended stays ended, with its list.
pub record Keeps (b : Book) (s : Subscribed) (d : Book) (t : Subscribed) : Type 0 where
  pub same : IsSame s t
  pub fair : IsFair d t
  pub more : List Parcel
  pub grows : whole d t ≡ whole b s ++ more
  pub ended : (e : Ending) → s.end ≡ Some e → (t.end ≡ Some e) × (more ≡ [])

-- it has ended, and all was taken
abbrev pub IsOver : Book → Subscribed → Type 0
IsOver b s = (e : Ending) × (s.end ≡ Some e) × (s.taken ≡ length (whole b s))

-- an answer that a list has ended
abbrev pub IsEnded : Answer → Type 0
IsEnded a = a ≡ Ended

-- it goes on, and these reads were answered
pub record Reads (b : Book) (s : Subscribed) (d : Book) (t : Subscribed)
    (reads : List Answer) : Type 0 where
  pub keeps : Keeps b s d t
  pub front : take s.taken (whole b s) ++ parcels_in reads ≡ take t.taken (whole d t)
  pub over : IsOver b s → IsOver d t × AllByRecursion IsEnded reads
  pub marked : (m : Mark) → reads ≡ Took (Fin m) ∷ [] → IsOver d t
  pub shown : reads ≡ Ended ∷ [] → IsOver b s

-- an event of its slot leaves it there, and these reads were answered
pub record Leaves (b : Book) (s : Subscribed) (reads : List Answer)
    (o : Option Subscribed) : Type 0 where
  pub sub : Subscribed
  pub is : o ≡ Some sub
  pub does : Reads b s b sub reads

-- ---- the end of a subscription

-- a subscription has ended or has not
pub end-cases : (o : Option Ending) → (o ≡ None) ⊎ ((e : Ending) × (o ≡ Some e))
end-cases None = inl refl
end-cases (Some e) = inr (e, refl)

-- one whose test says that it has no end has none
pub live-none : (o : Option Ending) → is_none o ≡ true → o ≡ None
live-none None h = refl
live-none (Some e) h = absurd (let no : ⊥ = cc in no)

-- one that is over passes the test
pub over-true : (b : Book) (s : Subscribed) → IsOver b s → is_over b s ≡ true
over-true b s h =
    let test : (s.taken == length (whole b s)) ≡ true = grind (arith, nat_tests, h.2) in
    ap (λ o. if is_none o then false else s.taken == length (whole b s)) h.1 ∙ test

-- one that passes the test is over
pub over-from : (b : Book) (s : Subscribed) → is_over b s ≡ true → IsOver b s
over-from b s h = by s.end (s.taken) (length (whole b s)) h
  where
    by : (o : Option Ending) (m n : ℕ) → (if is_none o then false else m == n) ≡ true
        → (e : Ending) × (o ≡ Some e) × (m ≡ n)
    by None m n is = absurd (let no : ⊥ = cc in no)
    by (Some d) m n is = (d, refl, grind (arith, nat_tests))

-- ---- its list

-- the updates of a subscription up to a number
abbrev pub updates_to : Book → Subscribed → ℕ → List Message
updates_to b s n = updates_of s.query s.flags b s.opened n

-- messages as parcels
abbrev pub parcels : List Message → List Parcel
parcels messages = map (λ m. Update m) messages

-- the whole list of a live subscription is its updates up to now
pub whole-live : (b : Book) (s : Subscribed) → s.end ≡ None
    → whole b s ≡ parcels (updates_to b s (number_of b))
whole-live b s live = ap (λ o. parcels (updates_to b s (covered_by b o))
    ++ mark_behind (length (updates_to b s (covered_by b o))) o) live ∙ append-nil _

-- what a live subscription is told is its updates up to now
pub told-live : (b : Book) (s : Subscribed) → s.end ≡ None
    → updates_due b s ≡ updates_to b s (number_of b)
told-live b s live = ap (λ o. updates_to b s (covered_by b o)) live

-- ---- what keeps it

-- an end keeps what a fair subscription was told
pub keeps-end : (b : Book) (s : Subscribed) (cause : Cause) → IsFair b s → s.end ≡ None
    → Keeps b s b (with_end s cause (number_of b))
keeps-end b s cause h live =
    let n = number_of b in
    let more : List Parcel =
    mark_behind (length (updates_to b s n)) (Some (record { cause = cause; change = n })) in
    let grows : whole b (with_end s cause n) ≡ whole b s ++ more =
    ap (λ xs. xs ++ more) (sym (whole-live b s live)) in
    record {
      same = refl;
      fair = record {
        begun = h.begun;
        places = h.places;
        most = h.most;
        backlog = h.backlog;
        taken = h.taken;
        port = h.port;
        opened = omega (arith, h.opened, h.covered);
        covered = omega arith;
        put = omega (arith, h.put, ap length grows, length-append (whole b s) more);
        held = λ no. absurd (let never : ⊥ = cc in never);
      };
      more = more;
      grows = grows;
      ended = λ e is. absurd (let no : ⊥ = cc in no);
    }

-- changes keep what a subscription that has ended was told
pub keeps-ended : UpdatesStay → (b : Book) (cs : List Change_) (s : Subscribed) (e : Ending)
    → IsFair b s → s.end ≡ Some e
    → Keeps b s (grown b cs) s
keeps-ended stay b cs s e h is =
    let to : covered b s ≡ e.change = ap (covered_by b) is in
    let told_same : updates_due (grown b cs) s ≡ updates_due b s =
    ap (λ o. updates_to (grown b cs) s (covered_by (grown b cs) o)) is
    ∙ (stay s.query s.flags (grown b cs) b s.opened e.change (cs, refl) h.begun
    (omega (arith, h.opened, to)) (omega (arith, h.covered, to))
    ∙ ap (λ o. updates_to b s (covered_by b o)) (sym is)) in
    let same : whole (grown b cs) s ≡ whole b s =
    ap (λ us. parcels us ++ mark_behind (length us) s.end) told_same in
    let far : covered (grown b cs) s ≡ e.change = ap (covered_by (grown b cs)) is in
    record {
      same = refl;
      fair = record {
        begun = h.begun;
        places = h.places;
        most = h.most;
        backlog = h.backlog;
        taken = h.taken;
        port = h.port;
        opened = omega (arith, h.opened, to, far);
        covered = omega (arith, h.covered, to, far, length-append b.changes cs);
        put = omega (arith, h.put, ap length same);
        held = λ live. absurd (let n = live-none s.end live in let no : ⊥ = cc in no);
      };
      more = [];
      grows = same ∙ sym (append-nil _);
      ended = λ d at. (at, refl);
    }

-- what two steps keep, they keep together
keeps-more : (b c d : Book) (s t u : Subscribed) → Keeps b s c t → Keeps c t d u → Keeps b s d u
keeps-more b c d s t u k l = record {
  same = l.same ∙ k.same;
  fair = l.fair;
  more = k.more ++ l.more;
  grows = l.grows ∙ (ap (λ xs. xs ++ l.more) k.grows ∙ append_assoc (whole b s) k.more l.more);
  ended = λ e is. let first = k.ended e is in
      let second = l.ended e first.0 in
      (second.0, rw (first.1, second.1) refl);
}

-- more puts and takes, within its list and its port, keep it
pub keeps-counts : (b : Book) (s : Subscribed) (asked : Bool) (put taken : ℕ) → IsFair b s
    → s.put ≤ put → taken ≤ put → put ≤ length (whole b s) → put ≤ taken + s.port
    → Keeps b s b (record s { hang_up_asked = asked; put = put; taken = taken })
keeps-counts b s asked put taken h grows order there room = record {
  same = refl;
  fair = record {
    begun = h.begun;
    places = h.places;
    most = h.most;
    backlog = h.backlog;
    opened = h.opened;
    covered = h.covered;
    taken = order;
    put = there;
    port = room;
    held = λ live. omega (
      arith,
      h.held live,
      grows,
      length-drop s.put (updates_due b s),
      length-drop put (updates_due b s),
    );
  };
  more = [];
  grows = sym (append-nil _);
  ended = λ e is. (is, refl);
}

-- nothing that happens keeps what was told
pub keeps-self : (b : Book) (s : Subscribed) → IsFair b s → Keeps b s b s
keeps-self b s h =
    keeps-counts b s s.hang_up_asked s.put s.taken h (omega arith) h.taken h.put h.port

-- a backlog with room for more still holds no more than it may
fits : (h k n backlog : ℕ)
    → (nat_lt 0 k && nat_lt backlog (h + k)) ≡ false → h ≤ backlog → n ≡ h + k → n ≤ backlog
fits h k n backlog room old is = elim (and_cases (nat_lt 0 k) (nat_lt backlog (h + k)) room) [
  | inl none ↦ omega (arith, ltb-false 0 k none)
  | inr few ↦ omega (arith, ltb-false backlog (h + k) few)
]

module _ (stay : UpdatesStay) (add : ChangesAddSteps) where
  -- a change that doesn't end it
  keeps-told : (b : Book) (c : Change_) (s : Subscribed)
      → IsFair b s → s.end ≡ None → change_overruns b c s ≡ false → Keeps b s (grown b (c ∷ [])) s
  keeps-told b c s h live room =
      let d = grown b (c ∷ []) in
      let us = updates_to b s (number_of b) in
      let to : covered b s ≡ number_of b = ap (covered_by b) live in
      let far : covered d s ≡ number_of d = ap (covered_by d) live in
      let step = step_of s.query s.flags (state_of b) c (length us + 1) in
      let told_more : updates_to d s (number_of d) ≡ us ++ step =
      ap (updates_of s.query s.flags d s.opened) (number-grown b c)
      ∙ add s.query s.flags b c s.opened (number_of b) refl (omega (arith, h.opened, to)) in
      let grows : whole d s ≡ whole b s ++ parcels step =
      whole-live d s live ∙ (ap parcels told_more ∙ (map-append (λ m. Update m) us step
      ∙ ap (λ xs. xs ++ parcels step) (sym (whole-live b s live)))) in
      let news_is : news b c s ≡ length step =
      ap (λ ms. length (step_of s.query s.flags (state_of b) c (length ms + 1)))
      (told-live b s live) in
      let before : length (updates_due b s) ≡ length us = ap length (told-live b s live) in
      let after : length (updates_due d s) ≡ length us + length step =
      ap length (told-live d s live ∙ told_more) ∙ length-append us step in
      record {
        same = refl;
        fair = record {
          begun = h.begun;
          places = h.places;
          most = h.most;
          backlog = h.backlog;
          taken = h.taken;
          port = h.port;
          opened = omega (arith, h.opened, to, far, length-append b.changes (c ∷ []));
          covered = omega (arith, far);
          put = omega (arith, h.put, ap length grows, length-append (whole b s) (parcels step));
          held = λ is.
              let list : s.put ≤ length us = omega
              (arith, h.put, ap length (whole-live b s live), length-map us (λ m. Update m)) in
              fits (waiting_count b s) (news b c s) (waiting_count d s) s.backlog room (h.held is)
              (omega (
                arith,
                before,
                after,
                news_is,
                list,
                length-drop s.put (updates_due b s),
                length-drop s.put (updates_due d s),
              ));
        };
        more = parcels step;
        grows = grows;
        ended = λ e is. absurd (let no : ⊥ = cc in no);
      }

  -- a change
  pub keeps-change : (b : Book) (c : Change_) (s : Subscribed) → IsFair b s
      → Keeps b s (grown b (c ∷ [])) (after_change b c s)
  keeps-change b c s h = by (is_live s && change_overruns b c s) refl
    where
      by : (x : Bool) → (is_live s && change_overruns b c s) ≡ x
          → Keeps b s (grown b (c ∷ [])) (overrun_if b s x)
      by true is =
          let t = with_end s Overrun (number_of b) in
          let ends =
          keeps-end b s Overrun h (live-none s.end
          (and_parts (is_live s) (change_overruns b c s) is).0) in
          keeps-more b b (grown b (c ∷ [])) s t t ends (keeps-ended stay b (c ∷ []) t
          (record { cause = Overrun; change = number_of b }) ends.fair refl)
      by false is = elim (end-cases s.end) [
        | inl live ↦ keeps-told b c s h live (ap (λ o. is_none o && change_overruns b c s)
            (sym live) ∙ is)
        | inr ended ↦ keeps-ended stay b (c ∷ []) s ended.0 h ended.1
      ]

-- a change leaves how much was taken
pub after_change-taken : (b : Book) (c : Change_) (s : Subscribed)
    → (after_change b c s).taken ≡ s.taken
after_change-taken b c s = each_bool (λ x. (overrun_if b s x).taken ≡ s.taken) refl refl
    (is_live s && change_overruns b c s)
