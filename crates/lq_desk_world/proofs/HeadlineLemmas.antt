-- What the readers of a run are told, by its events and answers alone.
use Rattle.std.proofs.Common.{◌≡◌, ℕ, zero, suc, ◌+◌, ◌-◌, ◌≤◌, List, [], ◌∷◌, ◌++◌, refl, ap, take, drop, length, ◌∙◌, sym, subst, arith, append_assoc, length-append, Bool}
use Rattle.std.proofs.lemmas.List.{take-append-drop}
use Rattle.std.proofs.Math.Seq.{drop-append-add, take-append-add, take-append_seam}
use Rattle.lq_value.specs.declared.entry.Entry.{Entry}
use Rattle.lq_predicate.specs.Query.{Query}
use Rattle.lq_volume.specs.Result.{result_of}
use Rattle.lq_volume.specs.Laws.{ChangesCount}
use Rattle.lq_volume.specs.State.{State}
use Rattle.lq_volume.specs.declared.change.Change.{Change as Change_}
use Rattle.lq_volume.specs.Book.{Book, IsBook, after_all, grown, number_of, state_at, state_of}
use Rattle.lq_update.specs.declared.open_options.Flags.{Flags}
use Rattle.lq_update.specs.declared.message.Message.{Message}
use Rattle.lq_update.specs.Updates.{updates_from, updates_of}
use mathlib.Core.List.{IsPrefix}
use Rattle.lq_update.specs.Fold.{folded}
use Rattle.lq_update.specs.Laws.{ChangesAddSteps, FoldsGiveResults, UpdatesGrow, UpdatesStay, WholeFoldsGiveResults}
use Rattle.lq_desk_world.specs.World.{World, Subscribed, covered, covered_by, updates_due, whole}
use Rattle.lq_desk_world.specs.declared.event.Event.{Event}
use Rattle.lq_desk_world.specs.declared.event.Event.TheVariants.{Change}
use Rattle.lq_desk_world.specs.Events.{Answer, Opened, Took, Ended}
use Rattle.lq_desk_world.specs.Runs.{Run}
use Rattle.lq_desk_world.specs.Headline.{reads_of, parcel_in, parcels_in, as_update, updates_among, updates_in, accepted_by, accepted, run_book, IsOpening, AreReads, OpeningsAreTold, ReadersAreTold, HasMark}
use Rattle.lq_desk_world.proofs.ReadLemmas.{run-book, run-lawful}
use Rattle.lq_desk_world.proofs.RunLemmas.{Ran, has-mark, mark-place, prefix-more, updates-prefix, updates_among-take}
use Rattle.std.specs.List.{AllByRecursion}
use Rattle.std.proofs.lemmas.List.Sums.{fold-append}
use Rattle.std.proofs.lemmas.List.Elements.{filter_map-append}
use Rattle.lq_update.specs.declared.mark.Mark.{Mark}
use Rattle.lq_update.specs.declared.parcel.Parcel.TheVariants.{Fin}
use Rattle.lq_desk_world.proofs.SubLemmas.{updates_to, IsEnded}
use Rattle.lq_desk_world.proofs.OpeningLemmas.{opened-ran, run_parts}

-- ---- the parts of a run

-- what two runs in a row accept is what the first accepts and then the second
accepted-append : (before events : List Event) (befores answers : List Answer)
    → length before ≡ length befores → accepted (before ++ events) (befores ++ answers)
    ≡ accepted before befores ++ accepted events answers
accepted-append [] events [] answers same = refl
accepted-append (e ∷ before) events (a ∷ befores) answers same =
    ap (λ cs. accepted_by e a ++ cs) (accepted-append before events befores answers (omega arith))
    ∙ sym (append_assoc (accepted_by e a) (accepted before befores) (accepted events answers))
accepted-append before events befores answers same = absurd (omega arith)

-- an event that is answered as an opening accepts no change
accepted-opened : (e : Event) (slot at : ℕ) (first : List Entry)
    → accepted_by e (Opened slot at first) ≡ []
accepted-opened (Change c) slot at first = refl
accepted-opened e slot at first = refl

-- a run has one answer for each event
run-count : (w : World) (events : List Event) (answers : List Answer) (end : World)
    → Run w events answers end → length events ≡ length answers
run-count w [] [] end run = refl
run-count w (e ∷ events) (a ∷ answers) end run =
    omega (arith, run-count run.0 events answers end run.2)
run-count w events answers end run = absurd run

-- the first events of a run are a run
run-take : (k : ℕ) (w : World) (events : List Event) (answers : List Answer) (end : World)
    → Run w events answers end → (mid : World) × Run w (take k events) (take k answers) mid
run-take zero w events answers end run = (w, refl)
run-take (suc k) w [] [] end run = (w, refl)
run-take (suc k) w (e ∷ events) (a ∷ answers) end run =
    let rest = run-take k run.0 events answers end run.2 in
    (rest.0, (run.0, run.1, rest.1))
run-take k w events answers end run = absurd run

-- ---- the reads of a subscription from its opening on

-- what they are, but for folding
pub record AreTold (b : Book) (q : Query) (flags : Flags) (at : ℕ)
    (reads : List Answer) : Type 0 where
  pub prefix : IsPrefix (updates_in reads) (updates_of q flags b at (number_of b))
  pub mark : (front rest : List Answer) (m : Mark) → reads ≡ front ++ Took (Fin m) ∷ rest →
      (at ≤ m.change) × (m.change ≤ number_of b)
      × (updates_in front ≡ updates_of q flags b at m.change)
      × (m.seq ≡ length (updates_in front) + 1)
      × AllByRecursion IsEnded rest
  pub ended : (front rest : List Answer) → reads ≡ front ++ Ended ∷ rest → HasMark front

-- what a subscription reads over a run, from its first read, is what a book tells that has the
-- number and the updates of the run's last book
ran-reads : UpdatesGrow → (b : Book) (s : Subscribed) (end : World) (i : ℕ) (reads : List Answer)
    (freed : Bool) (book : Book) → s.taken ≡ 0 → Ran b s end i reads freed
    → number_of end.book ≡ number_of book
    → ((n : ℕ) → updates_to end.book s n ≡ updates_to book s n)
    → AreTold book s.query s.flags s.opened reads
ran-reads grow b s end i reads freed book none ran number lists =
    let t = ran.sub in
    let d = end.book in
    let us = updates_to d s (covered d t) in
    let list : updates_due d t ≡ us =
    ap (λ l. updates_of l.0 l.1 d l.2 (covered d t)) ran.same in
    let given : parcels_in reads ≡ take t.taken (whole d t) =
    ap (λ n. take n (whole b s) ++ parcels_in reads) (sym none) ∙ ran.front in
    let all : updates_in reads ≡ take t.taken us = ap updates_among given
    ∙ (updates_among-take (updates_due d t) t.taken (length (updates_due d t)) t.end
    ∙ ap (take t.taken) list) in
    let last : covered d t + (number_of d - covered d t) ≡ number_of book =
    omega (arith, ran.fair.covered, number) in
    let longer : IsPrefix us (updates_to book s (number_of book)) =
    subst (λ (ms : List Message). IsPrefix us ms) (lists _ ∙ ap (updates_to book s) last)
    (updates-prefix grow s.query s.flags d s.opened (covered d t) (number_of d - covered d t)) in
    record {
      prefix = subst (λ (ms : List Message). IsPrefix ms (updates_to book s (number_of book)))
          (sym all) (prefix-more _ us _ (drop t.taken us, take-append-drop t.taken us) longer);
      mark = λ front rest m is.
          let parts : parcels_in front ++ Fin m
          ∷ (parcels_in rest ++ drop t.taken (whole d t)) ≡ whole d t =
          sym (append_assoc (parcels_in front) (Fin m ∷ parcels_in rest) (drop t.taken (whole d t)))
          ∙ (ap (λ ps. ps ++ drop t.taken (whole d t))
          (sym (filter_map-append parcel_in front (Took (Fin m) ∷ rest))
          ∙ (ap parcels_in (sym is) ∙ given))
          ∙ take-append-drop t.taken (whole d t)) in
          let place =
          mark-place (updates_due d t) (length (updates_due d t)) t.end
          (parcels_in front) _ m parts in
          let to : covered d t ≡ m.change = ap (covered_by d) place.1.1
          ∙ sym (ap (λ (n : Mark). n.change) place.1.2) in (
            omega (arith, ran.fair.opened, ap (λ l. l.2) ran.same, to),
            omega (arith, ran.fair.covered, to, number),
            place.0 ∙ (list ∙ (ap (updates_to d s) to ∙ lists m.change)),
            ap (λ (n : Mark). n.seq) place.1.2
                ∙ ap (λ (ms : List Message). length ms + 1) (sym place.0),
            ran.marked front rest m is,
          );
      ended = λ front rest is.
          let h = ran.shown front rest is in
          has-mark front h.0 h.1
          (ap (λ n. take n (whole b s) ++ parcels_in front) (sym none) ∙ h.2);
    }

-- ---- folding

-- the updates in answers and then in others are those in both together
updates_in-append : (xs ys : List Answer) → updates_in (xs ++ ys) ≡ updates_in xs ++ updates_in ys
updates_in-append xs ys = ap updates_among (filter_map-append parcel_in xs ys)
    ∙ filter_map-append as_update (parcels_in xs) (parcels_in ys)

-- the updates of a front of the reads are a prefix too
front-prefix : (front rest reads : List Answer) (us : List Message)
    → reads ≡ front ++ rest → IsPrefix (updates_in reads) us → IsPrefix (updates_in front) us
front-prefix front rest reads us is p = (
  updates_in rest ++ p.0,
  sym (append_assoc (updates_in front) (updates_in rest) p.0)
      ∙ (ap (λ ms. ms ++ p.0) (sym (updates_in-append front rest) ∙ sym (ap updates_in is)) ∙ p.1),
)

-- what a subscription is told, folded into its first result, gives the later results
pub told-reads : FoldsGiveResults → WholeFoldsGiveResults
    → (b : Book) (q : Query) (flags : Flags) (at : ℕ) (first : List Entry) (reads : List Answer)
    → IsBook b → b.start.number ≤ at → at ≤ number_of b → first ≡ result_of q (state_at b at)
    → AreTold b q flags at reads → AreReads b q flags at first reads
told-reads fold fold_all b q flags at first reads book begun within first_is told = record {
  prefix = told.prefix;
  mark = told.mark;
  ended = told.ended;
  folding = λ volume front rest is settled.
      ap (λ es. folded es (updates_in front)) first_is
      ∙ fold q flags b at (number_of b) (updates_in front) volume book begun within
      (front-prefix front rest reads _ is told.prefix) settled;
  closing = λ volume front rest m is.
      let h = told.mark front rest m is in
      ap (λ es. folded es (updates_in front)) first_is
      ∙ (ap (λ ms. folded (result_of q (state_at b at)) ms) h.2
      ∙ fold_all q flags b at m.change volume book begun h.0);
}

-- the state at the end of the first changes
state-after : (s : State) (early late : List Change_) (n : ℕ) → n ≡ s.number + length early
    → state_at (record { start = s; changes = early ++ late }) n ≡ after_all s early
state-after s early late n is =
    let k : n - s.number ≡ length early = omega (arith, is) in
    ap (λ i. after_all s (take i (early ++ late))) k
    ∙ ap (after_all s) (take-append_seam early late)

-- from a number at or past the book's end, a list goes by
-- the state there and the later changes alone
pub updates_of-rebased : ChangesCount
    → (q : Query) (flags : Flags) (b : Book) (cs : List Change_) (m n : ℕ) → number_of b ≤ m
    → updates_of q flags (grown b cs) m n
    ≡ updates_of q flags (record { start = state_of b; changes = cs }) m n
updates_of-rebased count q flags b cs m n past =
    let j = m - (state_of b).number in
    let k = m - b.start.number in
    let at : k ≡ length b.changes + j = omega (arith, count b.start b.changes) in
    ap (λ i. updates_from q flags (after_all b.start (take i (b.changes ++ cs)))
    (take (n - m) (drop i (b.changes ++ cs))) 1) at
    ∙ (ap (λ ds. updates_from q flags (after_all b.start ds)
    (take (n - m) (drop (length b.changes + j) (b.changes ++ cs))) 1)
    (take-append-add b.changes cs j)
    ∙ (ap (λ ds. updates_from q flags (after_all b.start (b.changes ++ take j cs))
    (take (n - m) ds) 1) (drop-append-add b.changes cs j)
    ∙ ap (λ s. updates_from q flags s (take (n - m) (drop j cs)) 1)
    (fold-append _ b.start b.changes (take j cs))))

module _ (stay : UpdatesStay) (add : ChangesAddSteps) (grow : UpdatesGrow) (count : ChangesCount)
    (fold : FoldsGiveResults) (fold_all : WholeFoldsGiveResults) where
  -- what a run's openings and reads are answered, from any world whose book leads to the state
  openings-told : (w end : World) (events : List Event) (answers : List Answer)
      → Run w events answers end → OpeningsAreTold (state_of w.book) events answers
  openings-told w end events answers run before after befores afters e q o slot at first asks is
      told same =
      let flags = o.flags in
      let parts = run_parts w before (e ∷ after) befores (Opened slot at first ∷ afters) end same
      (subst (λ (es : List Event). Run w es (befores ++ Opened slot at first ∷ afters) end) is
      (subst (λ (xs : List Answer). Run w events xs end) told run)) in
      let mid = parts.0 in
      let opened = opened-ran stay add mid e q o slot at first after afters end asks parts.2 in
      let start = state_of w.book in
      let early = accepted before befores in
      let late = accepted after afters in
      let cs = accepted events answers in
      let b : Book = run_book start events answers in
      let here : mid.book ≡ grown w.book early = run-book w before befores mid parts.1 in
      let all : end.book ≡ grown w.book cs = run-book w events answers end run in
      let both : cs ≡ early ++ late =
      ap (λ es. accepted es answers) is
      ∙ (ap (accepted (before ++ e ∷ after)) told
      ∙ (accepted-append before (e ∷ after) befores (Opened slot at first ∷ afters) same
      ∙ ap (λ xs. early ++ (xs ++ late)) (accepted-opened e slot at first))) in
      let counted = count w.book.start w.book.changes in
      let number : number_of end.book ≡ number_of b =
      omega (arith, ap number_of all, length-append w.book.changes cs, counted) in
      let at_number : at ≡ start.number + length early =
      omega (arith, opened.2, ap number_of here, length-append w.book.changes early, counted) in
      let past : number_of w.book ≤ at = omega (arith, at_number, counted) in
      let within : at ≤ number_of b =
      omega (arith, at_number, ap length both, length-append early late) in
      let then : state_of mid.book ≡ after_all start early =
      ap state_of here ∙ fold-append _ w.book.start w.book.changes early in
      let state : state_of mid.book ≡ state_at b at =
      then ∙ (sym (state-after start early late at at_number)
      ∙ ap (λ ds. state_at (record { start = start; changes = ds }) at) (sym both)) in
      let lists : (n : ℕ) → updates_of q flags end.book (number_of mid.book) n
      ≡ updates_of q flags b (number_of mid.book) n =
      λ n. ap (λ d. updates_of q flags d (number_of mid.book) n) all
      ∙ updates_of-rebased count q flags w.book cs (number_of mid.book) n
      (omega (arith, past, opened.2)) in
      let told_of : AreTold b q flags at (reads_of slot after afters) =
      subst (λ (n : ℕ). AreTold b q flags n (reads_of slot after afters)) (sym opened.2)
      (ran-reads grow mid.book _ end opened.0 _ _ b refl opened.4 number lists) in
      let opening : IsOpening (run_book start before befores) q at first =
      record { number = at_number; entries = opened.3 ∙ ap (result_of q) then } in (
        opening,
        told-reads fold fold_all b q flags at first _ (run-lawful w end events answers run)
            (omega (arith, at_number)) within (opened.3 ∙ ap (result_of q) state)
            told_of,
      )

  -- the headline of a run, from any world whose book leads to the state
  pub headline : (w end : World) (events : List Event) (answers : List Answer)
      → Run w events answers end → ReadersAreTold (state_of w.book) events answers
  headline w end events answers run = record {
    count = run-count w events answers end run;
    book = run-lawful w end events answers run;
    readers = λ k.
        let first = run-take k w events answers end run in
        openings-told w first.0 (take k events) (take k answers) first.1;
  }
