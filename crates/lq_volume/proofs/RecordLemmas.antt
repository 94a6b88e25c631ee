-- What is so of records after an edit of them, and how many are left.
use Rattle.std.proofs.Common.{◌≡◌, ℕ, ◌<◌, List, [], ◌∷◌, ◌++◌, refl, arith, eqb}
use Rattle.std.specs.Prelude.{not, ◌&&◌, ◌==◌, filter, Bool, true, false, cond, nat_eq, Option, Some, None, length, ◌≤◌, is_some}
use Rattle.std.specs.List.{AllByRecursion, list_any}
use Rattle.std.specs.Str.{bytes_eq}
use Rattle.std.specs.Map.{lookup, values_of}
use Rattle.std.proofs.lemmas.Bool.Decides.{nat_tests}
use Rattle.std.proofs.lemmas.List.Elements.{All-filter as filter_all, All-from_recursion, recursion_from_All}
use Rattle.lq_volume.specs.State.{Record, node_in}
use Rattle.lq_volume.specs.Change.{altered, without}

-- the records, each under its node
abbrev pub Entries : Type 0
Entries = List (ℕ × Record)

-- what is so of each entry is so of those that a filter leaves
pub All-filter : (P : ℕ × Record → Type 0) (test : ℕ × Record → Bool) (es : Entries)
    → AllByRecursion P es → AllByRecursion P (filter test es)
All-filter P test es h =
    recursion_from_All P (filter test es) (filter_all test P es (All-from_recursion P es h))

-- what follows from what is so of each entry, and is so of one more, is so of all of them
pub All-then : (P Q : ℕ × Record → Type 0) (es : Entries) (e : ℕ × Record)
    → ((f : ℕ × Record) → P f → Q f) → AllByRecursion P es → Q e → AllByRecursion Q (es ++ e ∷ [])
All-then P Q [] e then h q = (q, tt)
All-then P Q (f ∷ es) e then h q = (then f h.0, All-then P Q es e then h.1 q)

-- what is so of each entry is so without one node
pub All-without : (P : ℕ × Record → Type 0) (other : Option ℕ) (es : Entries) → AllByRecursion P es
    → AllByRecursion P (without other es)
All-without P None es h = h
All-without P (Some k) es h = All-filter P (λ e. not (eqb e.0 k)) es h

-- what an alteration keeps of each entry is so of all of them after it
pub All-kept : (P : ℕ × Record → Type 0) (k : ℕ) (g : Record → Record) (es : Entries)
    → ((e : ℕ × Record) → P e → P (e.0, g e.1)) → AllByRecursion P es
    → AllByRecursion P (altered k g es)
All-kept P k g [] f h = tt
All-kept P k g (e ∷ es) f h = (
  elim (eqb e.0 k) as (λ b. P (e.0, cond b (g e.1) e.1)) [ true ↦ f e h.0 | false ↦ h.0 ],
  All-kept P k g es f h.1,
)

-- without a node the entries are no more
pub length-filter_le : (es : Entries) (k : ℕ)
    → length (filter (λ e. not (eqb e.0 k)) es) ≤ length es
length-filter_le [] k = omega arith
length-filter_le (e ∷ es) k = grind (arith, nat_tests, length-filter_le es k)

-- without a node that was there the entries are fewer
pub length-filter_lt : (es : Entries) (k : ℕ) (r : Record) → lookup (nat_eq k) es ≡ Some r
    → length (filter (λ e. not (eqb e.0 k)) es) < length es
length-filter_lt [] k r h = grind (arith, nat_tests)
length-filter_lt (e ∷ es) k r h =
    let le = length-filter_le es k in
    grind (arith, nat_tests, length-filter_lt es k r)

-- a place is taken where the search finds a node
pub is_taken-node_in : (es : Entries) (dir : ℕ) (name : List ℕ)
    → list_any (λ r. (r.dir == dir) && bytes_eq r.name name) (values_of es)
    ≡ is_some (node_in es dir name)
is_taken-node_in [] dir name = refl
is_taken-node_in (e ∷ es) dir name = grind (arith, nat_tests, is_taken-node_in es dir name)
