-- What a walk over a map has found so far.
use Rattle.std.proofs.Common.{◌≡◌, ℕ, Bool, List, [], ◌∷◌, ◌++◌, ◌∙◌, ap, arith, cond, filter, map, sym}
use Rattle.std.specs.Borrow.{Bor}
use Rattle.std.specs.Map.Iter.{deref_pair}
use Rattle.std.proofs.lemmas.Bool.Decides.{nat_tests}
use Rattle.std.proofs.lemmas.List.{map-append}
use Rattle.lq_volume_entries.specs.Order.{shown_pair}
use Rattle.lq_volume_entries.specs.Record.{Record, entry_of}

-- one pair more is one record more
pub pairs-more : (ps : List (ℕ × Bor Record)) (ys : List (Bor ℕ × Bor Record))
    (y : Bor ℕ × Bor Record) → map shown_pair ps ≡ map deref_pair ys
    → map shown_pair (ps ++ (y.0.now, y.1) ∷ []) ≡ map deref_pair (ys ++ y ∷ [])
pairs-more ps ys y h =
    map-append shown_pair ps ((y.0.now, y.1) ∷ [])
    ∙ (ap (λ l. l ++ deref_pair y ∷ []) h ∙ sym (map-append deref_pair ys (y ∷ [])))

-- what is found with one record more
pub found-last : (test : ℕ × Record → Bool) (ys : List (Bor ℕ × Bor Record))
    (y : Bor ℕ × Bor Record) → map entry_of (filter test (map deref_pair (ys ++ y ∷ [])))
    ≡ cond (test (deref_pair y))
    (map entry_of (filter test (map deref_pair ys)) ++ entry_of (deref_pair y) ∷ [])
    (map entry_of (filter test (map deref_pair ys)))
found-last test [] y = grind (arith, nat_tests)
found-last test (z ∷ ys) y = grind (arith, nat_tests, found-last test ys y)
