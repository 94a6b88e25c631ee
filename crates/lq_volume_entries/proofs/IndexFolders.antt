-- The index: a folder has a name just where an entry is in it.
use Rattle.std.proofs.Common.{◌≡◌, ◌↔◌, ℕ, List, refl, arith, Bool, true, false}
use Rattle.std.specs.Prelude.{Option, Some, None, is_some, ◌==◌}
use Rattle.std.specs.List.{list_any}
use Rattle.std.specs.Map.{values_of}
use Rattle.std.proofs.lemmas.Bool.Decides.{nat_tests}
use Rattle.lq_value.specs.NameHash.{hash_of}
use Rattle.lq_volume_entries.specs.Record.{node_in}
use Rattle.lq_volume_entries.specs.PlaceIndex.{IsIndex}
use Rattle.lq_volume_entries.specs.declared.places.Places.{Places}
use Rattle.lq_volume_entries.specs.Places.{first_in, other_in, IsNameless}
use Rattle.lq_volume_entries.proofs.RecordLemmas.{Entries, fails-lookup}
use Rattle.lq_volume_entries.proofs.PlaceLemmas.{any-named, named-any}

-- a folder has a name just where an entry is in it
pub has_names-is : (p : Places) (es : Entries) (dir : ℕ) (has : Bool) → IsIndex p es
    → (has ≡ false) ↔ IsNameless p dir → has ≡ list_any (λ r. r.dir == dir) (values_of es)
has_names-is p es dir has i nameless =
    go (list_any (λ r. r.dir == dir) (values_of es)) refl
  where
    -- nothing is under a hash where no entry is
    by-first : list_any (λ r. r.dir == dir) (values_of es) ≡ false → (h : ℕ) (o : Option ℕ)
        → first_in p dir h ≡ o → o ≡ None
    by-first none h None is = refl
    by-first none h (Some x) is =
        let s = i.sound dir h x is in
        let never = fails-lookup (λ r. r.dir == dir) es x in
        absurd (grind (arith, nat_tests))

    -- nothing is under a name there
    by-other : list_any (λ r. r.dir == dir) (values_of es) ≡ false → (n : List ℕ) (o : Option ℕ)
        → other_in p dir n ≡ o → o ≡ None
    by-other none n None is = refl
    by-other none n (Some y) is =
        let had = i.finds dir n in
        let any = named-any es dir n in
        absurd (grind (arith, nat_tests))

    go : (b : Bool) → list_any (λ r. r.dir == dir) (values_of es) ≡ b → has ≡ b
    go false none = nameless.1 (
      (λ hash. by-first none hash (first_in p dir hash) refl),
      (λ name. by-other none name (other_in p dir name) refl),
    )
    go true any = named (any-named es dir any) has refl
      where
        named : (n : List ℕ) × (is_some (node_in es dir n) ≡ true) → (a : Bool) → has ≡ a
            → has ≡ true
        named w true h = h
        named w false h =
            let both = nameless.0 h in
            let first = both.0 (hash_of w.0) in
            let rest = both.1 w.0 in
            let had = i.finds dir w.0 in
            let some = w.1 in
            absurd (grind (arith, nat_tests))
