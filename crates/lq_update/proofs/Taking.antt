-- A rebuild takes each message of an update list in turn.
use Rattle.std.proofs.Common.{◌≡◌, ℕ, suc, ◌+◌, ◌-◌, ◌<◌, ◌≤◌, take, drop, List, [], ◌∷◌, ◌++◌, length, refl, sym, ap, ◌∙◌, true, false, arith, inl, inr, ◌⊎◌}
use Rattle.std.specs.Prelude.{None, ◌==◌}
use Rattle.std.proofs.lemmas.Bool.Decides.{nat_tests}
use Rattle.std.proofs.lemmas.List.{take-take}
use Rattle.lq_value.specs.declared.entry.Entry.{Entry}
use Rattle.lq_value.specs.Refusal.{first_refusal}
use Rattle.lq_predicate.specs.Query.{Query}
use Rattle.lq_volume.specs.declared.change.Change.{Change}
use Rattle.lq_volume.specs.State.{State, IsVolume}
use Rattle.lq_volume.specs.Change.{after}
use Rattle.lq_volume.specs.Book.{Book, AreLawful, IsBook, after_all, number_of, state_at, changes_between}
use Rattle.lq_volume.specs.Result.{result_of}
use Rattle.lq_volume.specs.Laws.{ChangesKeepTrees, ChangesCount}
use Rattle.lq_update.specs.declared.message.Message.{Message}
use Rattle.lq_update.specs.declared.open_options.Flags.{Flags}
use Rattle.lq_update.specs.declared.message.Opcode.{Opcode}
use Rattle.lq_update.specs.Updates.{numbered, step_of, told_by, updates_from, updates_of}
use Rattle.lq_update.specs.Fold.{Folding, fits_in, fold_refusals, folding_after, folding_after_all, opened_at}
use Rattle.lq_update.specs.Laws.{FoldingsFollow, FoldsGiveResults, RebuildsTakeAll, SettledIsTested}
use Rattle.lq_update.proofs.FoldLemmas.{Leads}
use Rattle.lq_update.proofs.FoldLaws.{leads-step, lawful-between, volume-at, number-at, state-on, take-short}

-- a message of this change may come: the first of it, or one more
abbrev MayTell : Folding → ℕ → Type 0
MayTell f change = ((f.settled ≡ true) × (f.change < change))
    ⊎ ((f.settled ≡ false) × (f.change ≡ change))

-- the next message is taken, if its change may be told and it fits
next-taken : (f : Folding) (m : Message) → f.seq + 1 ≡ m.seq → MayTell f m.change
    → fits_in f.entries m ≡ true → first_refusal (fold_refusals f m) ≡ None
next-taken f m seq (inl may) fits = grind (arith, nat_tests, may.0, may.1)
next-taken f m seq (inr may) fits = grind (arith, nat_tests, may.0, may.1)

-- the first of the messages of a change
abbrev first_of : ℕ → ℕ → Opcode × Entry → List (Opcode × Entry) → Message
first_of seq change x xs = record {
  seq = seq;
  change = change;
  last = length xs == 0;
  op = x.0;
  dir = x.1.dir;
  name = x.1.name;
  node = x.1.node;
}

-- where the messages of a change leave a fold
record IsReady (f : Folding) (seq number : ℕ) (es : List Entry) : Type 0 where
  next : f.seq + 1 ≡ seq
  settled : f.settled ≡ true
  told : f.change ≤ number
  entries : f.entries ≡ es

-- a fold by many messages has their entries, their last change, and whether they are settled
pub foldings-follow : FoldingsFollow
foldings-follow f [] = (refl, refl, refl)
foldings-follow f (m ∷ ms) = foldings-follow (folding_after f m) ms

-- the test of a settled list
pub settled-tested : SettledIsTested
settled-tested [] = ((λ h. refl), (λ h. tt))
settled-tested (m ∷ []) = ((λ h. h), (λ h. h))
settled-tested (m ∷ n ∷ ms) = settled-tested (n ∷ ms)

-- with the result at each number
module _ (result_at : ℕ → List Entry) where
  -- a settled fold has the result at its change
  abbrev Stands : Folding → Type 0
  Stands f = f.settled ≡ true → f.entries ≡ result_at f.change

  -- a fold refuses none of these messages, one after another, and stands after each
  abbrev Takes : Folding → List Message → Type 0
  Takes f [] = Unit {0}
  Takes f (m ∷ ms) = (first_refusal (fold_refusals f m) ≡ None)
      × Stands (folding_after f m) × Takes (folding_after f m) ms

  -- it takes two lists, if it takes the first, and then the second
  takes-append : (f : Folding) (xs ys : List Message) → Takes f xs
      → Takes (folding_after_all f xs) ys → Takes f (xs ++ ys)
  takes-append f [] ys p q = q
  takes-append f (x ∷ xs) ys p q = (p.0, p.1, takes-append (folding_after f x) xs ys p.2 q)

  -- if it takes messages, it refuses none of them after those before it
  takes-at : (f : Folding) (front rest : List Message) (m : Message) → Takes f (front ++ m ∷ rest)
      → first_refusal (fold_refusals (folding_after_all f front) m) ≡ None
  takes-at f [] rest m h = h.0
  takes-at f (x ∷ front) rest m h = takes-at (folding_after f x) front rest m h.2

  -- and it stands after them
  stands-at : (f : Folding) (front rest : List Message) → Stands f → Takes f (front ++ rest)
      → Stands (folding_after_all f front)
  stands-at f [] rest h p = h
  stands-at f (x ∷ front) rest h p = stands-at (folding_after f x) front rest p.1 p.2

  -- the messages of one change are taken if they may be told and lead to its result, and leave the
  -- fold ready
  taken-some : (f : Folding) (seq change : ℕ) (x : Opcode × Entry) (xs : List (Opcode × Entry))
      → f.seq + 1 ≡ seq → MayTell f change
      → Leads f.entries (numbered seq change (x ∷ xs)) (result_at change)
      → Takes f (numbered seq change (x ∷ xs))
      × IsReady (folding_after_all f (numbered seq change (x ∷ xs)))
      (seq + length (numbered seq change (x ∷ xs))) change (result_at change)
  taken-some f seq change x [] next may leads = (
    (next-taken f (first_of seq change x []) next may leads.fit.0, (λ _. leads.folds), tt),
    record { next = omega arith; settled = refl; told = omega arith; entries = leads.folds },
  )
  taken-some f seq change x (y ∷ xs) next may leads =
      let more : (length (y ∷ xs) == 0) ≡ false = grind (arith, nat_tests) in
      let rest = taken-some (folding_after f (first_of seq change x (y ∷ xs))) (seq + 1) change y xs
      refl (inr (more, refl)) (record { fit = leads.fit.1; folds = leads.folds }) in
      let ready = rest.1 in (
        (
          next-taken f (first_of seq change x (y ∷ xs)) next may leads.fit.0,
          (λ settled. cc),
          rest.0,
        ),
        record {
          next = omega (arith, ready.next);
          settled = ready.settled;
          told = ready.told;
          entries = ready.entries;
        },
      )

  -- and so it is where a change has no message
  taken-numbered : (f : Folding) (seq change : ℕ) (xs : List (Opcode × Entry)) → f.seq + 1 ≡ seq
      → f.settled ≡ true → f.change < change
      → Leads f.entries (numbered seq change xs) (result_at change)
      → Takes f (numbered seq change xs)
      × IsReady (folding_after_all f (numbered seq change xs))
      (seq + length (numbered seq change xs)) change (result_at change)
  taken-numbered f seq change [] next settled lt leads = (
    tt,
    record { next = omega arith; settled = settled; told = omega arith; entries = leads.folds },
  )
  taken-numbered f seq change (x ∷ xs) next settled lt leads =
      taken-some f seq change x xs next (inl (settled, lt)) leads

  -- a fold that is ready takes the messages of many changes, each of which keeps the tree and
  -- counts one
  takes-all : ChangesKeepTrees → ChangesCount → (q : Query) (flags : Flags) (f : Folding)
      (s : State) (cs : List Change) (seq : ℕ) → IsVolume s → AreLawful s cs
      → ((j : ℕ) → j ≤ length cs
      → result_at (s.number + j) ≡ result_of q (after_all s (take j cs)))
      → IsReady f seq s.number (result_of q s) → Takes f (updates_from q flags s cs seq)
  takes-all keep count q flags f s [] seq v l gives ready = tt
  takes-all keep count q flags f s (c ∷ cs) seq v l gives ready =
      let w = keep s c v l.0 in
      let next : result_at (s.number + 1) ≡ result_of q (after s c) = gives 1 (omega arith) in
      let below = ready.told in
      let one : (after s c).number ≡ s.number + 1 = count s (c ∷ []) in
      let leads : Leads f.entries (step_of q flags s c seq) (result_at (s.number + 1)) =
      rw (ready.entries, next) (leads-step q flags s c seq v w) in
      let first = taken-numbered f seq (s.number + 1) (told_by q flags s c) ready.next
      ready.settled (omega arith) leads in
      let then = first.1 in
      takes-append f (step_of q flags s c seq) _ first.0
      (takes-all keep count q flags (folding_after_all f (step_of q flags s c seq)) (after s c) cs _
      w l.1
      (λ j le. ap result_at (let e : (after s c).number + j ≡ s.number + suc j = omega arith in e)
      ∙ gives (suc j) (omega arith))
      (record {
        next = then.next;
        settled = then.settled;
        told = rw one then.told;
        entries = then.entries ∙ next;
      }))

-- a fold from the opening's result takes an update list, and stands after each message
takes-updates : ChangesKeepTrees → ChangesCount → (q : Query) (flags : Flags) (b : Book) (m n : ℕ)
    → IsVolume b.start → IsBook b → b.start.number ≤ m → m ≤ number_of b
    → Takes (λ k. result_of q (state_at b k)) (opened_at m (result_of q (state_at b m)))
    (updates_of q flags b m n)
takes-updates keep count q flags b m n v l low high =
    let number = number-at count b m low high in
    let changes = drop (m - b.start.number) b.changes in
    let few = take-short (n - m) changes in
    takes-all (λ k. result_of q (state_at b k)) keep count q flags
    (opened_at m (result_of q (state_at b m))) (state_at b m) (changes_between b m n) 1
    (volume-at keep b m n v l) (lawful-between keep b m n v l)
    (λ j le. ap (result_of q) (ap (λ k. state_at b (k + j)) number ∙ sym
    (ap (after_all (state_at b m)) (take-take j (n - m) changes (omega arith))
    ∙ state-on b m j low)))
    (record { next = omega arith; settled = refl; told = omega arith; entries = refl })

-- it refuses no message of it
pub rebuilds-take : ChangesKeepTrees → ChangesCount → RebuildsTakeAll
rebuilds-take keep count q flags b m n front rest message v l low high is =
    takes-at (λ k. result_of q (state_at b k)) (opened_at m (result_of q (state_at b m))) front rest
    message (rw is (takes-updates keep count q flags b m n v l low high))

-- folding a settled front of it gives the result after its last change
pub folds-give : ChangesKeepTrees → ChangesCount → FoldsGiveResults
folds-give keep count q flags b m n front v l low high (rest, is) settled =
    let f = opened_at m (result_of q (state_at b m)) in
    let follow = foldings-follow f front in
    sym follow.0
    ∙ (stands-at (λ k. result_of q (state_at b k)) f front rest (λ _. refl)
    (rw is (takes-updates keep count q flags b m n v l low high))
    (follow.2 ∙ (settled-tested front).0 settled)
    ∙ ap (λ k. result_of q (state_at b k)) follow.1)
