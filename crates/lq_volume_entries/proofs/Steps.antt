-- The steps of a bounded walk up.
use Rattle.std.proofs.Common.{◌≡◌, ℕ, zero, suc, arith, true, false, Some, None}
use Rattle.std.specs.Prelude.{nat_eq, Option}
use Rattle.std.specs.Map.{lookup}
use Rattle.std.proofs.lemmas.Bool.Decides.{nat_tests}
use Rattle.lq_volume_entries.specs.Record.{Record, climbs, dir_of}
use Rattle.lq_volume_entries.proofs.RecordLemmas.{Entries}

-- a bounded walk finds the node that it begins at
pub climbs-here : (n : ℕ) (up : ℕ → Option ℕ) (to at : ℕ) → at ≡ to → climbs n up to at ≡ true
climbs-here zero up to at h = grind (arith, nat_tests)
climbs-here (suc n) up to at h = grind (arith, nat_tests)

-- a bounded walk from another node that has no record finds nothing
pub climbs-top : (n : ℕ) (es : Entries) (to at : ℕ) → (at ≡ to → ⊥)
    → None ≡ lookup (nat_eq at) es → climbs n (dir_of es) to at ≡ false
climbs-top zero es to at off none = grind (arith, nat_tests)
climbs-top (suc n) es to at off none = grind (arith, nat_tests)

-- a bounded walk goes on from the folder that the node is in
pub climbs-on : (n : ℕ) (es : Entries) (to at : ℕ) (r : Record) → (at ≡ to → ⊥)
    → Some r ≡ lookup (nat_eq at) es
    → climbs (suc n) (dir_of es) to at ≡ climbs n (dir_of es) to r.dir
climbs-on n es to at r off is = grind (arith, nat_tests)
