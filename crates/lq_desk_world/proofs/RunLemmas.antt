-- What the reads of a subscription are answered over a run from its opening on.
use Rattle.std.proofs.Common.{◌≡◌, ℕ, zero, suc, ◌+◌, ◌≤◌, List, [], ◌∷◌, ◌++◌, refl, ap, take, length, ◌∙◌, sym, subst, arith, append_assoc, append-nil, Some, None, Option, inl, inr, Bool, true, false}
use Rattle.std.specs.Prelude.{◌⊎◌, ◌==◌, ◌||◌, slice_get, if◌then◌else◌}
use Rattle.std.specs.List.{AllByRecursion}
use Rattle.std.proofs.lemmas.List.{take_all}
use Rattle.lq_predicate.specs.Query.{Query}
use Rattle.lq_volume.specs.Book.{Book, grown}
use Rattle.lq_update.specs.declared.open_options.Flags.{Flags}
use Rattle.lq_update.specs.declared.message.Message.{Message}
use Rattle.lq_update.specs.declared.mark.Mark.{Mark}
use Rattle.lq_update.specs.declared.parcel.Parcel.{Parcel}
use Rattle.lq_update.specs.declared.parcel.Parcel.TheVariants.{Update, Fin}
use Rattle.lq_update.specs.Updates.{updates_of}
use mathlib.Core.List.{IsPrefix}
use Rattle.lq_update.specs.Laws.{ChangesAddSteps, UpdatesGrow, UpdatesStay}
use Rattle.lq_desk_world.specs.World.{World, Subscribed, Ending, updates_due, mark_behind, whole}
use Rattle.lq_desk_world.specs.declared.event.Event.{Event}
use Rattle.lq_desk_world.specs.declared.event.Event.TheVariants.{Take}
use Rattle.lq_desk_world.specs.Events.{Answer, Took, Ended}
use Rattle.lq_desk_world.specs.Runs.{Run}
use Rattle.lq_desk_world.specs.Fair.{IsFair}
use Rattle.lq_desk_world.specs.Headline.{read_by, reads_of, parcel_in, parcels_in, updates_among, accepted, HasMark}
use Rattle.lq_desk_world.specs.PassedOn.{is_freed}
use Rattle.std.proofs.lemmas.List.Elements.{All-append, All-from_recursion, filter_map-append, recursion_from_All}
use Rattle.lq_desk_world.proofs.ListLemmas.{each_bool}
use Rattle.lq_desk_world.proofs.SubLemmas.{parcels, IsSame, IsOver, IsEnded, Reads, keeps-ended}
use Rattle.lq_desk_world.proofs.TakenLemmas.{reads-nothing, reads-self, taken_within}
use Rattle.lq_desk_world.proofs.ReadLemmas.{Stands, run-book, step-goes}

-- a mark stands last
abbrev IsMarked : List Parcel → Type 0
IsMarked ps = (m : Mark) × (front : List Parcel) × (ps ≡ front ++ Fin m ∷ [])

-- What the reads of a slot were answered, from a point of its subscription to a world, where this
-- is in its slot or that was freed.
pub record Ran (b : Book) (s : Subscribed) (end : World) (i : ℕ) (reads : List Answer)
    (freed : Bool) : Type 0 where
  pub sub : Subscribed
  pub same : IsSame s sub
  pub fair : IsFair end.book sub
  pub front : take s.taken (whole b s) ++ parcels_in reads ≡ take sub.taken (whole end.book sub)
  pub over : IsOver b s → AllByRecursion IsEnded reads
  pub marked : (front rest : List Answer) (m : Mark) → reads ≡ front ++ Took (Fin m) ∷ rest
      → AllByRecursion IsEnded rest
  pub shown : (front rest : List Answer) → reads ≡ front ++ Ended ∷ rest
      → IsMarked (take s.taken (whole b s) ++ parcels_in front)
  pub here : freed ≡ false → slice_get end.slots i ≡ Some (Some sub)
  pub gone : freed ≡ true → IsOver end.book sub

-- no member stands in the empty list
no_place : {A : Type 0} (front rest : List A) (x : A) → [] ≡ front ++ x ∷ rest → ⊥
no_place [] rest x is = cc
no_place (y ∷ front) rest x is = cc

-- a run that reads nothing has read nothing
ran-nothing : (b : Book) (s : Subscribed) (end : World) (i : ℕ) (t : Subscribed) (freed : Bool)
    → Reads b s end.book t [] → (freed ≡ false → slice_get end.slots i ≡ Some (Some t))
    → (freed ≡ true → IsOver end.book t) → Ran b s end i [] freed
ran-nothing b s end i t freed r here gone = record {
  sub = t;
  same = r.keeps.same;
  fair = r.keeps.fair;
  front = r.front;
  over = λ o. tt;
  marked = λ front rest m is. absurd (no_place front rest (Took (Fin m)) is);
  shown = λ front rest is. absurd (no_place front rest Ended is);
  here = here;
  gone = gone;
}

-- all that is told of one that has ended ends with the mark
over-marked : (b : Book) (s : Subscribed) → IsOver b s → IsMarked (take s.taken (whole b s) ++ [])
over-marked b s o =
    let us = parcels (updates_due b s) in
    let m : Mark =
    record { seq = length (updates_due b s) + 1; change = o.0.change; cause = o.0.cause } in (
      m,
      us,
      append-nil (take s.taken (whole b s))
          ∙ (take_all s.taken (whole b s) (omega (arith, o.2))
          ∙ ap (λ e. us ++ mark_behind (length (updates_due b s)) e) o.1),
    )

-- one event answers one read at most
read_short : (slot : ℕ) (e : Event) (a : Answer) → length (read_by slot e a) ≤ 1
read_short slot (Take k) a = each_bool (λ x. length (if x then a ∷ [] else []) ≤ 1)
    (omega arith) (omega arith) (k == slot)
read_short slot e a = omega arith

-- a member of one read at most, and of more reads, is that one or stands among those
split : (xs ys front rest : List Answer) (x : Answer) → length xs ≤ 1
    → xs ++ ys ≡ front ++ x ∷ rest → ((xs ≡ x ∷ []) × (front ≡ []) × (ys ≡ rest))
    ⊎ ((late : List Answer) × (front ≡ xs ++ late) × (ys ≡ late ++ x ∷ rest))
split [] ys front rest x few is = inr (front, refl, is)
split (y ∷ []) ys [] rest x few is = inl (cc, refl, cc)
split (y ∷ []) ys (z ∷ front) rest x few is = inr (front, cc, cc)
split (y ∷ z ∷ xs) ys front rest x few is = absurd (omega (arith, few))

-- one read, or none, and then a run of reads are a run
ran-more : (b c : Book) (s t : Subscribed) (end : World) (i : ℕ) (xs ys : List Answer)
    (freed : Bool) → length xs ≤ 1 → Reads b s c t xs → Ran c t end i ys freed
    → Ran b s end i (xs ++ ys) freed
ran-more b c s t end i xs ys freed few r ran = record {
  sub = ran.sub;
  same = ran.same ∙ r.keeps.same;
  fair = ran.fair;
  front = onward ys ∙ ran.front;
  over = λ o. let first = r.over o in
      recursion_from_All IsEnded (xs ++ ys) (All-append IsEnded xs ys
      (All-from_recursion IsEnded xs first.1) (All-from_recursion IsEnded ys (ran.over first.0)));
  marked = λ front rest m is. elim (split xs ys front rest (Took (Fin m)) few is) [
    | inl one ↦ subst (λ (zs : List Answer). AllByRecursion IsEnded zs) one.2
        (ran.over (r.marked m one.0))
    | inr more ↦ ran.marked more.0 rest m more.2
  ];
  shown = λ front rest is. elim (split xs ys front rest Ended few is) [
    | inl one ↦ subst (λ (zs : List Answer). IsMarked (told ++ parcels_in zs)) (sym one.1)
        (over-marked b s (r.shown one.0))
    | inr more ↦
        let marked = ran.shown more.0 rest more.2 in
        subst (λ (zs : List Answer). IsMarked (told ++ parcels_in zs)) (sym more.1)
        (marked.0, marked.1, onward more.0 ∙ marked.2)
  ];
  here = ran.here;
  gone = ran.gone;
}
  where
    told : List Parcel
    told = take s.taken (whole b s)

    onward : (zs : List Answer)
        → told ++ parcels_in (xs ++ zs) ≡ take t.taken (whole c t) ++ parcels_in zs
    onward zs = ap (λ ps. told ++ ps) (filter_map-append parcel_in xs zs)
        ∙ (sym (append_assoc told (parcels_in xs) (parcels_in zs))
        ∙ ap (λ ps. ps ++ parcels_in zs) r.front)

module _ (stay : UpdatesStay) (add : ChangesAddSteps) where
  -- over a whole run
  pub run-ran : (w : World) (i : ℕ) (s : Subscribed) (events : List Event) (answers : List Answer)
      (end : World) → Stands w i s → Run w events answers end
      → Ran w.book s end i (reads_of (i + 1) events answers) (is_freed (i + 1) events answers)
  run-ran w i s [] [] end h run = subst (λ (v : World). Ran w.book s v i [] false) (sym run)
      (ran-nothing w.book s w i s false (reads-self w.book s h.fair) (λ free. h.here)
      (λ no. absurd (let never : ⊥ = cc in never)))
  run-ran w i s (e ∷ events) (a ∷ answers) end h run =
      elim (step-goes stay add w i s e a run.0 h run.1) [
        | inl freed ↦
            let cs = accepted (e ∷ events) (a ∷ answers) in
            let stays : Reads w.book s end.book s [] =
            subst (λ (b : Book). Reads w.book s b s [])
            (sym (run-book w (e ∷ events) (a ∷ answers) end run))
            (reads-nothing w.book s (grown w.book cs) s (taken_within w.book s h.fair) refl
            (keeps-ended stay w.book cs s freed.1.0 h.fair freed.1.1)) in
            subst RanIf (sym freed.0) (ran-nothing w.book s end i s true stays
            (λ no. absurd (let never : ⊥ = cc in never)) (λ gone. (stays.over freed.1).0))
        | inr goes ↦
            let g = goes.1 in
            let rest = run-ran run.0 i g.sub events answers end
            (record { here = g.here; fair = g.does.keeps.fair }) run.2 in
            subst RanIf (sym goes.0) (ran-more w.book run.0.book s g.sub end i _ _ _
            (read_short (i + 1) e a) g.does rest)
      ]
    where
      RanIf : Bool → Type 0
      RanIf x = Ran w.book s end i
          (if x then [] else read_by (i + 1) e a ++ reads_of (i + 1) events answers)
          (x || is_freed (i + 1) events answers)
  run-ran w i s events answers end h run = absurd run

-- ---- from parcels to updates

-- the updates of a front of a list are a front of its updates
pub updates_among-take : (us : List Message) (n k : ℕ) (o : Option Ending)
    → updates_among (take n (parcels us ++ mark_behind k o)) ≡ take n us
updates_among-take [] zero k o = refl
updates_among-take [] (suc n) k None = refl
updates_among-take [] (suc zero) k (Some e) = refl
updates_among-take [] (suc (suc n)) k (Some e) = refl
updates_among-take (u ∷ us) zero k o = refl
updates_among-take (u ∷ us) (suc n) k o = ap (λ ms. u ∷ ms) (updates_among-take us n k o)

-- a mark in a list stands behind all its updates
pub mark-place : (us : List Message) (k : ℕ) (o : Option Ending) (xs ys : List Parcel) (m : Mark)
    → xs ++ Fin m ∷ ys ≡ parcels us ++ mark_behind k o → (updates_among xs ≡ us)
    × ((e : Ending) × (o ≡ Some e) × (m ≡ record
    { seq = k + 1; change = e.change; cause = e.cause }))
mark-place [] k None xs ys m is = absurd (no_place xs ys (Fin m) (sym is))
mark-place [] k (Some e) [] ys m is = (refl, (e, refl, cc))
mark-place [] k (Some e) (x ∷ xs) ys m is =
    absurd (no_place xs ys (Fin m) (let rest : [] ≡ xs ++ Fin m ∷ ys = cc in rest))
mark-place (u ∷ us) k o [] ys m is = absurd (let no : ⊥ = cc in no)
mark-place (u ∷ us) k o (x ∷ xs) ys m is =
    let first : x ≡ Update u = cc in
    let others : xs ++ Fin m ∷ ys ≡ parcels us ++ mark_behind k o = cc in
    let rest = mark-place us k o xs ys m others in
    (ap (λ p. updates_among (p ∷ xs)) first ∙ ap (λ ms. u ∷ ms) rest.0, rest.1)

-- what has the mark has it with one answer more before
has-more : (x : Answer) (reads : List Answer) → HasMark reads → HasMark (x ∷ reads)
has-more x reads h = (h.0, x ∷ h.1, h.2, ap (λ zs. x ∷ zs) h.3)

-- a mark that answers gave is among them
pub has-mark : (reads : List Answer) (m : Mark) (front : List Parcel)
    → parcels_in reads ≡ front ++ Fin m ∷ [] → HasMark reads
has-mark [] m front is = absurd (no_place front [] (Fin m) is)
has-mark (Took p ∷ reads) m [] is =
    let first : p ≡ Fin m = cc in
    (m, [], reads, ap (λ q. Took q ∷ reads) first)
has-mark (Took p ∷ reads) m (f ∷ front) is = has-more (Took p) reads (has-mark reads m front cc)
has-mark (x ∷ reads) m front is = has-more x reads (has-mark reads m front is)

-- ---- prefixes

-- what a beginning begins with, the list begins with
pub prefix-more : (xs ys zs : List Message) → IsPrefix xs ys → IsPrefix ys zs → IsPrefix xs zs
prefix-more xs ys zs p q =
    (p.0 ++ q.0, sym (append_assoc xs p.0 q.0) ∙ (ap (λ us. us ++ q.0) p.1 ∙ q.1))

-- the updates up to one change are a beginning of those up to a later one
pub updates-prefix : UpdatesGrow → (q : Query) (flags : Flags) (b : Book) (m n k : ℕ)
    → IsPrefix (updates_of q flags b m n) (updates_of q flags b m (n + k))
updates-prefix grow q flags b m n zero =
    let e : n ≡ n + 0 = omega arith in
    ([], append-nil _ ∙ ap (updates_of q flags b m) e)
updates-prefix grow q flags b m n (suc k) =
    subst (λ (l : ℕ). IsPrefix (updates_of q flags b m n) (updates_of q flags b m l))
    (let e : n + k + 1 ≡ n + suc k = omega arith in e)
    (prefix-more _ _ _ (updates-prefix grow q flags b m n k) (grow q flags b m (n + k)))
