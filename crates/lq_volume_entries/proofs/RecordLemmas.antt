-- What one more node at the end, and one node less, make of entries whose nodes rise.
use Rattle.std.proofs.Common.{◌≡◌, ℕ, ◌<◌, ◌≤◌, List, [], ◌∷◌, ◌++◌, refl, arith, eqb}
use Rattle.std.specs.Prelude.{not, ◌&&◌, ◌==◌, filter, Bool, true, false, cond, nat_eq, Option, Some, None}
use Rattle.std.specs.Option.{option_map}
use Rattle.std.specs.List.{AllByRecursion, list_any}
use Rattle.std.specs.Str.{bytes_eq}
use Rattle.std.proofs.lemmas.List.Elements.{All-filter, All-from_recursion, recursion_from_All}
use Rattle.std.proofs.lemmas.Slice.Eq.{bytes_eq-Decides}
use Rattle.std.specs.Map.{lookup, values_of}
use Rattle.std.proofs.lemmas.Bool.Decides.{nat_tests}
use Rattle.lq_volume_entries.specs.Record.{Record, Rises, node_in}
use Rattle.lq_volume_entries.specs.Edits.{altered, without}

-- the records, each under its node
abbrev pub Entries : Type 0
Entries = List (ℕ × Record)

-- a node that is absent has no record to alter
pub altered-absent : (es : Entries) (k : ℕ) (g : Record → Record)
    → lookup (nat_eq k) es ≡ None → altered k g es ≡ es
altered-absent [] k g h = refl
altered-absent (e ∷ es) k g h = grind (arith, nat_tests, altered-absent es k g)

-- what is so of each entry and of one more is so of all of them
pub All-push : (P : ℕ × Record → Type 0) (es : Entries) (e : ℕ × Record) → AllByRecursion P es → P e
    → AllByRecursion P (es ++ e ∷ [])
All-push P [] e h p = (p, tt)
All-push P (f ∷ es) e h p = (h.0, All-push P es e h.1 p)

-- the nodes still rise after one more that is above all others
pub Rises-push : (es : Entries) (k : ℕ) (v : Record) → Rises es → AllByRecursion (λ e. e.0 < k) es
    → Rises (es ++ (k, v) ∷ [])
Rises-push [] k v h b = (tt, tt)
Rises-push (e ∷ es) k v h b =
    (All-push (λ f. e.0 < f.0) es (k, v) h.0 b.0, Rises-push es k v h.1 b.1)

-- the nodes that a filter leaves rise
pub Rises-filter : (test : ℕ × Record → Bool) (es : Entries) → Rises es → Rises (filter test es)
Rises-filter test [] h = tt
Rises-filter test (e ∷ es) h =
    elim (test e) as (λ b. Rises (cond b (e ∷ filter test es) (filter test es))) [
      | true ↦ (
        recursion_from_All (λ f. e.0 < f.0) (filter test es)
            (All-filter test (λ f. e.0 < f.0) es (All-from_recursion (λ f. e.0 < f.0) es h.0)),
        Rises-filter test es h.1,
      )
      | false ↦ Rises-filter test es h.1
    ]

-- without a node, a look-up of it finds nothing, and one of another what it found
pub lookup-filter : (es : Entries) (k n : ℕ) → lookup (nat_eq n) (filter (λ e. not (eqb e.0 k)) es)
    ≡ cond (eqb n k) None (lookup (nat_eq n) es)
lookup-filter [] k n = grind (arith, nat_tests)
lookup-filter (e ∷ es) k n = grind (arith, nat_tests, lookup-filter es k n)

-- a look-up after an alteration finds the altered record, or another node's own
pub lookup-altered : (es : Entries) (k : ℕ) (g : Record → Record) (n : ℕ)
    → lookup (nat_eq n) (altered k g es)
    ≡ cond (eqb n k) (option_map g (lookup (nat_eq n) es)) (lookup (nat_eq n) es)
lookup-altered [] k g n = grind (arith, nat_tests)
lookup-altered (e ∷ es) k g n = grind (arith, nat_tests, lookup-altered es k g n)

-- a look-up with one more entry finds it, or what it found before
pub lookup-push : (es : Entries) (k : ℕ) (v : Record) (n : ℕ) → AllByRecursion (λ e. e.0 < k) es
    → lookup (nat_eq n) (es ++ (k, v) ∷ []) ≡ cond (eqb n k) (Some v) (lookup (nat_eq n) es)
lookup-push [] k v n h = grind (arith, nat_tests)
lookup-push (e ∷ es) k v n h = grind (arith, nat_tests, lookup-push es k v n h.1)

-- the nodes still rise without one
pub Rises-without : (other : Option ℕ) (es : Entries) → Rises es → Rises (without other es)
Rises-without None es h = h
Rises-without (Some k) es h = Rises-filter (λ e. not (eqb e.0 k)) es h

-- what is so of each node is so after an alteration
pub All-altered : (P : ℕ → Type 0) (k : ℕ) (g : Record → Record) (es : Entries)
    → AllByRecursion (λ e. P e.0) es → AllByRecursion (λ e. P e.0) (altered k g es)
All-altered P k g [] h = tt
All-altered P k g (e ∷ es) h = (h.0, All-altered P k g es h.1)

-- the nodes still rise after an alteration
pub Rises-altered : (k : ℕ) (g : Record → Record) (es : Entries) → Rises es → Rises (altered k g es)
Rises-altered k g [] h = tt
Rises-altered k g (e ∷ es) h = (All-altered (λ n. e.0 < n) k g es h.0, Rises-altered k g es h.1)

-- a node below all others is not found among them
pub lookup-below : (es : Entries) (k m : ℕ) → AllByRecursion (λ f. m < f.0) es → k ≤ m
    → lookup (nat_eq k) es ≡ None
lookup-below [] k m h low = refl
lookup-below (e ∷ es) k m h low = grind (arith, nat_tests, lookup-below es k m h.1, h.0)

-- nor is one above all others
pub lookup-above : (es : Entries) (k : ℕ) → AllByRecursion (λ f. f.0 < k) es
    → lookup (nat_eq k) es ≡ None
lookup-above [] k h = refl
lookup-above (e ∷ es) k h = grind (arith, nat_tests, lookup-above es k h.1)

-- where no record passes a test, none that is found does
pub fails-lookup : (test : Record → Bool) (es : Entries) (n : ℕ) (r : Record)
    → list_any test (values_of es) ≡ false → lookup (nat_eq n) es ≡ Some r → test r ≡ false
fails-lookup test [] n r h found = cc
fails-lookup test (e ∷ es) n r h found = grind (arith, nat_tests, fails-lookup test es n r)

-- the nodes of a front are below that of what follows it
pub Rises-front : (es fs : Entries) (e : ℕ × Record) → Rises (es ++ e ∷ fs)
    → AllByRecursion (λ f. f.0 < e.0) es
Rises-front [] fs e h = tt
Rises-front (f ∷ es) fs e h = (below es h.0, Rises-front es fs e h.1)
  where
    below : (gs : Entries) → AllByRecursion (λ g. f.0 < g.0) (gs ++ e ∷ fs) → f.0 < e.0
    below [] k = k.0
    below (g ∷ gs) k = below gs k.1

-- the record of a node is at a place
abbrev pub HasPlace : Entries → ℕ → ℕ → List ℕ → Type 0
HasPlace es x dir name =
    (r : Record) × (lookup (nat_eq x) es ≡ Some r) × (r.dir ≡ dir) × (r.name ≡ name)

-- the node that the search for a place finds has a record there
pub node_in-some : (es : Entries) (dir : ℕ) (name : List ℕ) (x : ℕ) → Rises es
    → node_in es dir name ≡ Some x → HasPlace es x dir name
node_in-some [] dir name x h found = cc
node_in-some (e ∷ es) dir name x h found =
    at (node_in-some es dir name x h.1) ((e.1.dir == dir) && bytes_eq e.1.name name) refl
  where
    at : (node_in es dir name ≡ Some x → HasPlace es x dir name) → (b : Bool)
        → ((e.1.dir == dir) && bytes_eq e.1.name name) ≡ b → HasPlace (e ∷ es) x dir name
    at hyp true is =
        let same = bytes_eq-Decides e.1.name name in
        let here : e.0 ≡ x = grind (arith, nat_tests) in
        (e.1, grind (arith, nat_tests), grind (arith, nat_tests), grind (arith, nat_tests))
    at hyp false is =
        let rest : HasPlace es x dir name = hyp (grind (arith, nat_tests)) in
        let l = rest.1 in
        let off = lookup-below es e.0 e.0 h.0 (omega arith) in
        (rest.0, grind (arith, nat_tests), rest.2, rest.3)

-- where no node is found at a place, no record has it
pub node_in-none : (es : Entries) (dir : ℕ) (name : List ℕ) (n : ℕ) (r : Record)
    → node_in es dir name ≡ None → lookup (nat_eq n) es ≡ Some r → r.dir ≡ dir → r.name ≡ name → ⊥
node_in-none [] dir name n r none found same_dir same_name = cc
node_in-none (e ∷ es) dir name n r none found same_dir same_name =
    let same = bytes_eq-Decides e.1.name name in
    grind (arith, nat_tests, node_in-none es dir name n r)
