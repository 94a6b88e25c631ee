-- What a node has among entries that rise by node, and what taking one out or putting one in does
-- to that.
use Rattle.std.proofs.Common.{◌≡◌, ℕ, ◌<◌, List, [], ◌∷◌, refl, sym, ap, ◌∙◌, Bool, true, false, arith, inl, inr}
use Rattle.std.specs.Prelude.{Option, Some, None, is_some, cond, ◌==◌, filter, nat_lt, if◌then◌else◌}
use Rattle.std.specs.Option.{option_map_or}
use Rattle.std.specs.List.{AllByRecursion}
use Rattle.std.proofs.lemmas.Map.Entries.{option_filter}
use Rattle.std.proofs.lemmas.Bool.{cases_eq, cases_lt}
use Rattle.std.proofs.lemmas.Bool.Decides.{nat_tests}
use Rattle.std.proofs.lemmas.Slice.Eq.{bytes_eq-Decides}
use Rattle.lq_value.specs.declared.entry.Entry.{Entry}
use Rattle.lq_update.specs.Diff.{same_entry, has_node}
use Rattle.lq_update.specs.Fold.{EntriesRise, taken_out, put_in, has_entry}

-- the entry of a node
abbrev pub entry_at : ℕ → List Entry → Option Entry
entry_at n [] = None
entry_at n (e ∷ es) = if e.node == n then Some e else entry_at n es

-- each entry has a node above this one
abbrev pub Above : ℕ → List Entry → Type 0
Above n es = AllByRecursion (λ f. n < f.node) es

-- among entries above a node it has no entry
pub at-above : (n : ℕ) (es : List Entry) → Above n es → entry_at n es ≡ None
at-above n [] h = refl
at-above n (e ∷ es) h = let low = h.0 in let rest = at-above n es h.1 in grind (arith, nat_tests)

-- what is above a node is above a lower one
pub above-lower : (j k : ℕ) (es : List Entry) → j < k → Above k es → Above j es
above-lower j k [] lt h = tt
above-lower j k (e ∷ es) lt h = (omega (arith, h.0), above-lower j k es lt h.1)

-- the entry found for a node has that node
pub at-node : (n : ℕ) (es : List Entry) (e : Entry) → entry_at n es ≡ Some e → e.node ≡ n
at-node n [] e is = cc
at-node n (f ∷ es) e is = grind (arith, nat_tests, at-node n es e)

-- a node is there just where an entry is found for it
pub has_node-at : (n : ℕ) (es : List Entry) → has_node n es ≡ is_some (entry_at n es)
has_node-at n [] = refl
has_node-at n (e ∷ es) = grind (arith, nat_tests, has_node-at n es)

-- an entry is the same as itself
pub same-self : (e : Entry) → same_entry e e ≡ true
same-self e = grind (arith, nat_tests, (bytes_eq-Decides e.name e.name).1 refl)

-- two entries for which the test holds are equal
pub same-entry : (e f : Entry) → same_entry e f ≡ true → e ≡ f
same-entry e f is = grind (arith, nat_tests, bytes_eq-Decides e.name f.name)

-- among entries above its node a triple isn't
has_entry-above : (e : Entry) (es : List Entry) → Above e.node es → has_entry e es ≡ false
has_entry-above e [] h = refl
has_entry-above e (f ∷ es) h = grind (arith, nat_tests, h.0, has_entry-above e es h.1)

-- where the nodes rise, a triple is there just where it is the one found for its node
pub has_entry-at : (e : Entry) (es : List Entry) → EntriesRise es
    → has_entry e es ≡ option_map_or (same_entry e) (entry_at e.node es) false
has_entry-at e [] h = refl
has_entry-at e (f ∷ es) h = elim (cases_eq f.node e.node) [
  | inl same ↦ grind (arith, nat_tests, has_entry-above e es (rw (← same) h.0))
  | inr differs ↦ grind (arith, nat_tests, has_entry-at e es h.1)
]

-- what a filter leaves is above a node where all was
above-filter : (t : Entry → Bool) (n : ℕ) (es : List Entry) → Above n es → Above n (filter t es)
above-filter t n [] h = tt
above-filter t n (e ∷ es) h =
    elim (t e) as (λ b. Above n (cond b (e ∷ filter t es) (filter t es))) [
      | true ↦ (h.0, above-filter t n es h.1)
      | false ↦ above-filter t n es h.1
    ]

-- what a filter leaves rises
pub rises-filter : (t : Entry → Bool) (es : List Entry) → EntriesRise es → EntriesRise (filter t es)
rises-filter t [] h = tt
rises-filter t (e ∷ es) h =
    elim (t e) as (λ b. EntriesRise (cond b (e ∷ filter t es) (filter t es))) [
      | true ↦ (above-filter t e.node es h.0, rises-filter t es h.1)
      | false ↦ rises-filter t es h.1
    ]

-- with one more entry, if it passes, a node has that one or what it had
at-cond : (n : ℕ) (b : Bool) (e : Entry) (es : List Entry) → entry_at n (cond b (e ∷ es) es)
    ≡ cond b (cond (e.node == n) (Some e) (entry_at n es)) (entry_at n es)
at-cond n true e es = refl
at-cond n false e es = refl

-- the entry found after a filter is the one found before it, if that passes
pub at-filter : (t : Entry → Bool) (n : ℕ) (es : List Entry) → EntriesRise es
    → entry_at n (filter t es) ≡ option_filter t (entry_at n es)
at-filter t n [] h = refl
at-filter t n (e ∷ es) h =
    let step = at-cond n (t e) e (filter t es) in
    elim (cases_eq e.node n) [
      | inl same ↦
          let gone = at-above n (filter t es) (rw (← same) (above-filter t e.node es h.0)) in
          grind (arith, nat_tests)
      | inr differs ↦ grind (arith, nat_tests, at-filter t n es h.1)
    ]

-- with its triple taken out, a node has no entry
pub at-taken_out : (es : List Entry) (e : Entry) → EntriesRise es → entry_at e.node es ≡ Some e
    → entry_at e.node (taken_out e es) ≡ None
at-taken_out es e h is = at-filter _ e.node es h ∙ rw (is, same-self e) refl

-- with a triple put in, its node has it and each other node what it had
pub at-put_in : (e : Entry) (n : ℕ) (es : List Entry) → entry_at e.node es ≡ None
    → entry_at n (put_in e es) ≡ (if e.node == n then Some e else entry_at n es)
at-put_in e n [] none = refl
at-put_in e n (f ∷ es) none = grind (arith, nat_tests, at-put_in e n es)

-- with a triple above a node put in, all is above that node still
above-put_in : (e : Entry) (n : ℕ) (es : List Entry) → n < e.node → Above n es
    → Above n (put_in e es)
above-put_in e n [] lt h = (lt, tt)
above-put_in e n (f ∷ es) lt h =
    elim (nat_lt e.node f.node) as (λ b. Above n (cond b (e ∷ f ∷ es) (f ∷ put_in e es))) [
      | true ↦ (lt, h)
      | false ↦ (h.0, above-put_in e n es lt h.1)
    ]

-- with a triple of a new node put in, the nodes still rise
pub rises-put_in : (e : Entry) (es : List Entry) → EntriesRise es → entry_at e.node es ≡ None
    → EntriesRise (put_in e es)
rises-put_in e [] h none = (tt, tt)
rises-put_in e (f ∷ es) h none = elim (cases_lt e.node f.node) [
  | inl low ↦
      let is : nat_lt e.node f.node ≡ true = grind (arith, nat_tests) in
      rw is ((low, above-lower e.node f.node es low h.0), h)
  | inr high ↦
      let is : nat_lt e.node f.node ≡ false = grind (arith, nat_tests) in
      let lt : f.node < e.node = grind (arith, nat_tests) in
      let rest : entry_at e.node es ≡ None = grind (arith, nat_tests) in
      rw is (above-put_in e f.node es lt h.0, rises-put_in e es h.1 rest)
]

-- a triple that is there is the entry found for its node
pub at-has_entry : (e : Entry) (es : List Entry) → EntriesRise es → has_entry e es ≡ true
    → entry_at e.node es ≡ Some e
at-has_entry e es h has = found (entry_at e.node es) refl (sym (has_entry-at e es h) ∙ has)
  where
    found : (o : Option Entry) → entry_at e.node es ≡ o
        → option_map_or (same_entry e) o false ≡ true → entry_at e.node es ≡ Some e
    found None is same = cc
    found (Some f) is same = is ∙ ap Some (sym (same-entry e f same))

-- an option that has no value
pub none-of : {A : Type 0} (o : Option A) → is_some o ≡ false → o ≡ None
none-of None h = refl
none-of (Some x) h = cc

-- where a node isn't there no entry is found for it
pub at-lacks : (n : ℕ) (es : List Entry) → has_node n es ≡ false → entry_at n es ≡ None
at-lacks n es lacks = none-of (entry_at n es) (sym (has_node-at n es) ∙ lacks)

-- with a triple of its node in place of one that is there, the nodes still rise
pub rises-replaced : (e old : Entry) (es : List Entry) → EntriesRise es → has_entry old es ≡ true
    → e.node ≡ old.node → EntriesRise (put_in e (taken_out old es))
rises-replaced e old es h has node = rises-put_in e (taken_out old es) (rises-filter _ es h)
    (rw node (at-taken_out es old h (at-has_entry old es h has)))

-- entries that rise are those of their nodes
pub entries-same : (es fs : List Entry) → EntriesRise es → EntriesRise fs
    → ((n : ℕ) → entry_at n es ≡ entry_at n fs) → es ≡ fs
entries-same [] [] h k same = refl
entries-same [] (f ∷ fs) h k same = let at = same f.node in absurd (grind (arith, nat_tests))
entries-same (e ∷ es) [] h k same = let at = same e.node in absurd (grind (arith, nat_tests))
entries-same (e ∷ es) (f ∷ fs) h k same = elim (cases_lt e.node f.node) [
  | inl low ↦
      let none = at-above e.node fs (above-lower e.node f.node fs low k.0) in
      let at = same e.node in absurd (grind (arith, nat_tests))
  | inr high ↦ elim (cases_lt f.node e.node) [
    | inl low ↦
        let none = at-above f.node es (above-lower f.node e.node es low h.0) in
        let at = same f.node in absurd (grind (arith, nat_tests))
    | inr low ↦
        let node : e.node ≡ f.node = omega arith in
        let first : e ≡ f = let at = same e.node in grind (arith, nat_tests) in
        let rest : es ≡ fs = entries-same es fs h.1 k.1 (λ n. elim (cases_eq e.node n) [
          | inl is ↦ at-above n es (rw (← is) h.0) ∙ sym (at-above n fs (rw (← is, node) k.0))
          | inr off ↦ grind (arith, nat_tests, same n)
        ]) in
        rw (first, rest) refl
  ]
]
