-- Folding an update list gives a result, and no message of one fails to fit.
use Rattle.std.proofs.Common.{◌≡◌, ℕ, suc, zero, ◌+◌, ◌-◌, ◌<◌, ◌≤◌, List, [], ◌∷◌, ◌++◌, length, take, drop, refl, sym, ap, subst, ◌∙◌, Bool, true, false, arith, inl, inr}
use Rattle.std.specs.Prelude.{map, filter, ◌==◌, nat_eq, cond, Option, Some, None, option_and_then, if◌then◌else◌}
use Rattle.std.specs.Map.{lookup}
use Rattle.std.proofs.lemmas.Bool.{cases_eq}
use Rattle.std.specs.List.{AllByRecursion}
use Rattle.std.proofs.lemmas.Bool.Decides.{nat_tests}
use Rattle.std.proofs.Math.Seq.{take-add}
use Rattle.std.proofs.lemmas.List.{length-take, length-take-le}
use Rattle.lq_value.specs.declared.entry.Entry.{Entry}
use Rattle.lq_predicate.specs.Query.{Query}
use Rattle.lq_predicate.specs.Truth.{truth}
use Rattle.lq_volume.specs.declared.change.Change.{Change}
use Rattle.lq_volume.specs.State.{State, Record, Rises, IsVolume}
use Rattle.lq_volume.specs.Change.{after, node_of}
use Rattle.lq_volume.specs.Book.{Book, number_of, after_all, state_at, changes_between, AreLawful, IsBook}
use Rattle.lq_volume.specs.Result.{result_of, match_at, entry_of, shown}
use Rattle.lq_volume.specs.Laws.{ChangesKeepTrees, ChangesCount}
use Rattle.lq_update.specs.declared.message.Message.{Message}
use Rattle.lq_update.specs.declared.open_options.Flags.{Flags}
use Rattle.lq_update.specs.declared.message.Opcode.TheVariants.{ValueChanged}
use Rattle.lq_update.specs.Diff.{diff}
use Rattle.lq_update.specs.Values.{told_within, value_written, values_told}
use Rattle.lq_update.specs.Updates.{step_of, told_by, updates_from, updates_of}
use Rattle.lq_update.specs.Fold.{EntriesRise, folded, folded_one, fits_in}
use Rattle.lq_update.specs.Laws.{ResultsRise, WholeFoldsGiveResults, MessagesFitIn}
use Rattle.std.proofs.lemmas.List.Sums.{fold-append}
use Rattle.lq_update.proofs.EntryLemmas.{Above, entry_at, at-above, at-node}
use Rattle.lq_update.proofs.FoldLemmas.{Op, OpsFit, ops_folded, ops_folded-append, fit-append, fits-needs, told-folds, told-fits, MessagesFit, Leads, leads-append, leads-numbered}

-- ---- results rise by node

-- the entries that a result has of records above a node are above it
above-result : (test : ℕ × Record → Bool) (n : ℕ) (es : List (ℕ × Record))
    → AllByRecursion (λ f. n < f.0) es → Above n (map entry_of (filter test es))
above-result test n [] h = tt
above-result test n (e ∷ es) h =
    elim (test e) as (λ b. Above n (map entry_of (cond b (e ∷ filter test es) (filter test es)))) [
      | true ↦ (h.0, above-result test n es h.1)
      | false ↦ above-result test n es h.1
    ]

-- the entries that a result has of records whose nodes rise do so too
rises-result : (test : ℕ × Record → Bool) (es : List (ℕ × Record)) → Rises es
    → EntriesRise (map entry_of (filter test es))
rises-result test [] h = tt
rises-result test (e ∷ es) h =
    elim (test e) as (λ b.
    EntriesRise (map entry_of (cond b (e ∷ filter test es) (filter test es)))) [
      | true ↦ (above-result test e.0 es h.0, rises-result test es h.1)
      | false ↦ rises-result test es h.1
    ]

-- each result of a volume rises by node
pub results-rise : ResultsRise
results-rise q s v = rises-result (λ e. truth q (shown e.1)) s.records v.numbered.rise

-- with one more entry, if it passes, a node has that one or what it had
at-cond : (n : ℕ) (b : Bool) (e : ℕ × Record) (es : List (ℕ × Record))
    → entry_at n (map entry_of (cond b (e ∷ es) es))
    ≡ cond b (cond (e.0 == n) (Some (entry_of e)) (entry_at n (map entry_of es)))
    (entry_at n (map entry_of es))
at-cond n true e es = refl
at-cond n false e es = refl

-- the entry that a result has of a node is that of its record, if it passes
at-records : (test : ℕ × Record → Bool) (n : ℕ) (es : List (ℕ × Record)) → Rises es
    → entry_at n (map entry_of (filter test es)) ≡ option_and_then
    (λ r. cond (test (n, r)) (Some (entry_of (n, r))) None) (lookup (nat_eq n) es)
at-records test n [] h = refl
at-records test n (e ∷ es) h =
    let step = at-cond n (test e) e (filter test es) in
    elim (cases_eq e.0 n) [
      | inl same ↦
          let gone : entry_at n (map entry_of (filter test es)) ≡ None =
          at-above n (map entry_of (filter test es)) (rw (← same) (above-result test e.0 es h.0)) in
          grind (arith, nat_tests)
      | inr differs ↦ grind (arith, nat_tests, at-records test n es h.1)
    ]

-- so it is the node's match
pub at-result : (q : Query) (s : State) (n : ℕ) → IsVolume s
    → entry_at n (result_of q s) ≡ match_at q s n
at-result q s n v = at-records (λ e. truth q (shown e.1)) n s.records v.numbered.rise

-- ---- changes

-- the message of a value fits a set that has its entry, and leaves the set as it is
within-fits : (r : List Entry) (n : ℕ) (w : Option (Option (List ℕ))) (o p : Option Entry)
    → EntriesRise r → entry_at n r ≡ p
    → OpsFit r (told_within w o p) × (ops_folded r (told_within w o p) ≡ r)
within-fits r n None o p h is = (tt, refl)
within-fits r n (Some a) None p h is = (tt, refl)
within-fits r n (Some a) (Some e) None h is = (tt, refl)
within-fits r n (Some a) (Some e) (Some f) h is =
    ((fits-needs (ValueChanged a) f r h (ap (λ k. entry_at k r) (at-node n r f is) ∙ is), tt), refl)

-- and so do the messages of values, where they are asked for
values-fit : (q : Query) (b : Bool) (s : State) (c : Change) → IsVolume (after s c)
    → OpsFit (result_of q (after s c)) (if b then values_told q s c else [])
    × (ops_folded (result_of q (after s c)) (if b then values_told q s c else [])
    ≡ result_of q (after s c))
values-fit q false s c w = (tt, refl)
values-fit q true s c w =
    within-fits (result_of q (after s c)) (node_of s c) (value_written c)
    (match_at q s (node_of s c)) (match_at q (after s c) (node_of s c))
    (results-rise q (after s c) w)
    (at-result q (after s c) (node_of s c) w)

-- the messages of one change lead from the result before to the result after
pub leads-step : (q : Query) (flags : Flags) (s : State) (c : Change) (seq : ℕ) → IsVolume s
    → IsVolume (after s c)
    → Leads (result_of q s) (step_of q flags s c seq) (result_of q (after s c))
leads-step q flags s c seq v w =
    let t = after s c in
    let moves : List Op = diff q flags.moved s t in
    let values : List Op = if flags.values then values_told q s c else [] in
    let folds : ops_folded (result_of q s) moves ≡ result_of q t =
    told-folds flags.moved _ _ (results-rise q s v) (results-rise q t w) in
    let fit = values-fit q flags.values s c w in
    leads-numbered seq (s.number + 1) (result_of q s) (told_by q flags s c) (result_of q t)
    (fit-append (result_of q s) moves values
    (told-fits flags.moved _ _ (results-rise q s v) (results-rise q t w))
    (subst (λ r. OpsFit r values) (sym folds) fit.0))
    (ops_folded-append (result_of q s) moves values
    ∙ (ap (λ r. ops_folded r values) folds ∙ fit.1))

-- so do the messages of many changes, each of which keeps the tree
leads-all : ChangesKeepTrees → (q : Query) (flags : Flags) (s : State) (cs : List Change) (seq : ℕ)
    → IsVolume s → AreLawful s cs
    → Leads (result_of q s) (updates_from q flags s cs seq) (result_of q (after_all s cs))
leads-all keep q flags s [] seq v l = record { fit = tt; folds = refl }
leads-all keep q flags s (c ∷ cs) seq v l =
    let w = keep s c v l.0 in
    leads-append (result_of q s) (step_of q flags s c seq) _ (result_of q (after s c)) _
    (leads-step q flags s c seq v w) (leads-all keep q flags (after s c) cs _ w l.1)

-- if messages fit, each of them fits what those before it leave
fits-at : (r : List Entry) (front rest : List Message) (m : Message)
    → MessagesFit r (front ++ m ∷ rest) → fits_in (folded r front) m ≡ true
fits-at r [] rest m h = h.0
fits-at r (x ∷ front) rest m h = fits-at (folded_one r x) front rest m h.1

-- ---- over a book

-- a front of lawful changes is lawful
lawful-take : (s : State) (cs : List Change) (k : ℕ) → AreLawful s cs → AreLawful s (take k cs)
lawful-take s cs zero l = tt
lawful-take s [] (suc k) l = tt
lawful-take s (c ∷ cs) (suc k) l = (l.0, lawful-take (after s c) cs k l.1)

-- and so is what follows, after that front
lawful-drop : (s : State) (cs : List Change) (k : ℕ) → AreLawful s cs
    → AreLawful (after_all s (take k cs)) (drop k cs)
lawful-drop s cs zero l = l
lawful-drop s [] (suc k) l = tt
lawful-drop s (c ∷ cs) (suc k) l = lawful-drop (after s c) cs k l.1

-- lawful changes leave a volume
volume-all : ChangesKeepTrees → (s : State) (cs : List Change) → IsVolume s → AreLawful s cs
    → IsVolume (after_all s cs)
volume-all keep s [] v l = v
volume-all keep s (c ∷ cs) v l = volume-all keep (after s c) cs (keep s c v l.0) l.1

-- a front is no longer than was asked for
pub take-short : {X : Type 0} (k : ℕ) (xs : List X) → length (take k xs) ≤ k
take-short k xs = rw (length-take k xs) (omega arith)

-- between two numbers of a book
module _ (keep : ChangesKeepTrees) (b : Book) (m n : ℕ) (v : IsVolume b.start) (l : IsBook b) where
  -- the state at a number of a book is a volume
  pub volume-at : IsVolume (state_at b m)
  volume-at = volume-all keep b.start (take (m - b.start.number) b.changes) v
      (lawful-take b.start b.changes (m - b.start.number) l)

  -- the changes up to the other number are lawful there
  pub lawful-between : AreLawful (state_at b m) (changes_between b m n)
  lawful-between = lawful-take (state_at b m) (drop (m - b.start.number) b.changes) (n - m)
      (lawful-drop b.start b.changes (m - b.start.number) l)

-- the state so many changes behind another of a book
pub state-on : (b : Book) (m j : ℕ) → b.start.number ≤ m
    → after_all (state_at b m) (take j (drop (m - b.start.number) b.changes)) ≡ state_at b (m + j)
state-on b m j low =
    let all : m + j - b.start.number ≡ m - b.start.number + j = omega arith in
    sym (ap (λ k. after_all b.start (take k b.changes)) all
    ∙ (ap (after_all b.start) (take-add (m - b.start.number) j b.changes)
    ∙ fold-append after b.start (take (m - b.start.number) b.changes)
    (take j (drop (m - b.start.number) b.changes))))

-- the state at a number has that number
pub number-at : ChangesCount → (b : Book) (m : ℕ) → b.start.number ≤ m → m ≤ number_of b
    → (state_at b m).number ≡ m
number-at count b m low high =
    let short : length (take (m - b.start.number) b.changes) ≡ m - b.start.number =
    length-take-le (m - b.start.number) b.changes (omega arith) in
    let all = count b.start (take (m - b.start.number) b.changes) in
    omega arith

-- the messages of an update list lead from the result at one number to that behind its changes
leads-between : ChangesKeepTrees → (q : Query) (flags : Flags) (b : Book) (m n : ℕ)
    → IsVolume b.start → IsBook b → Leads (result_of q (state_at b m)) (updates_of q flags b m n)
    (result_of q (after_all (state_at b m) (changes_between b m n)))
leads-between keep q flags b m n v l =
    leads-all keep q flags (state_at b m) (changes_between b m n) 1 (volume-at keep b m n v l)
    (lawful-between keep b m n v l)

-- folding a whole update list gives the result at its end
pub whole-folds-give : ChangesKeepTrees → WholeFoldsGiveResults
whole-folds-give keep q flags b m n v l low le =
    let end : m + (n - m) ≡ n = omega arith in
    (leads-between keep q flags b m n v l).folds
    ∙ (ap (result_of q) (state-on b m (n - m) low) ∙ ap (λ k. result_of q (state_at b k)) end)

-- each message of an update list fits the fold of those before it
pub messages-fit : ChangesKeepTrees → MessagesFitIn
messages-fit keep q flags b m n front rest message v l is =
    fits-at (result_of q (state_at b m)) front rest message
    (rw is (leads-between keep q flags b m n v l).fit)
