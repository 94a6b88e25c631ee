-- The index: what a record more, less or altered makes of what it finds.
use Rattle.std.proofs.Common.{◌≡◌, ℕ, List, [], ◌∷◌, ◌++◌, ◌<◌, refl, sym, arith, eqb, ◌∙◌, true}
use Rattle.std.specs.Prelude.{not, filter, nat_eq, Option, Some, None}
use Rattle.std.specs.List.{AllByRecursion}
use Rattle.std.specs.Map.{lookup}
use Rattle.std.proofs.lemmas.Bool.Decides.{nat_tests}
use Rattle.std.proofs.lemmas.Slice.Eq.{bytes_eq-Decides}
use Rattle.lq_value.specs.NameHash.{hash_of}
use Rattle.lq_volume_entries.specs.Record.{Record, Rises, node_in}
use Rattle.lq_volume_entries.specs.Edits.{altered}
use Rattle.lq_volume_entries.specs.PlaceIndex.{found, is_under_hash, IsIndex, IsApart}
use Rattle.lq_volume_entries.specs.declared.places.Places.{Places}
use Rattle.lq_volume_entries.specs.Places.{first_in, other_in, is_first, SamePlaces, PutsNode, TakesNode}
use Rattle.lq_volume_entries.proofs.RecordLemmas.{Entries, lookup-altered, lookup-filter, lookup-push, lookup-above}
use Rattle.lq_volume_entries.proofs.PlaceLemmas.{at-node, node_in-push, node_in-left, node_in-altered}

-- an index of the same nodes is one of the same records
pub index-same : (p q : Places) (es : Entries) → SamePlaces p q → IsIndex p es → IsIndex q es
index-same p q es s i = record {
  finds = λ d n. rw (s.first d (hash_of n), s.others d n) (i.finds d n);
  sound = λ d h x e. i.sound d h x (sym (s.first d h) ∙ e);
}

-- one record more
module _ (p q : Places) (es : Entries) (k : ℕ) (v : Record) (i : IsIndex p es)
    (last : AllByRecursion (λ e. e.0 < k) es) (free : node_in es v.dir v.name ≡ None)
    (puts : PutsNode p q v.dir v.name k None) where
  -- the entries with it
  abbrev more : Entries
  more = es ++ (k, v) ∷ []

  -- what is found at a place
  added-finds : (d : ℕ) (n : List ℕ)
      → found more n (first_in q d (hash_of n)) (other_in q d n) ≡ node_in more d n
  added-finds d n = go (first_in p d (hash_of n)) refl
    where
      go : (o : Option ℕ) → first_in p d (hash_of n) ≡ o
          → found more n (first_in q d (hash_of n)) (other_in q d n) ≡ node_in more d n
      go None was =
          let f = puts.first d (hash_of n) in
          let g = puts.others d n in
          let same = bytes_eq-Decides v.name n in
          let look = lookup-push es k v k last in
          let step = node_in-push es k v d n free in
          let had = i.finds d n in
          grind (arith, nat_tests)
      go (Some x) was =
          let f = puts.first d (hash_of n) in
          let g = puts.others d n in
          let look = lookup-push es k v x last in
          let above = lookup-above es k last in
          let s = i.sound d (hash_of n) x was in
          let same = bytes_eq-Decides v.name n in
          let none = free in
          let step = node_in-push es k v d n free in
          let had = i.finds d n in
          grind (arith, nat_tests)

  -- what stands under a hash
  added-sound : (d h x : ℕ) → first_in q d h ≡ Some x → is_under_hash more d h x ≡ true
  added-sound d h x now = go (first_in p d h) refl
    where
      go : (o : Option ℕ) → first_in p d h ≡ o → is_under_hash more d h x ≡ true
      go None was =
          let f = puts.first d h in
          let look = lookup-push es k v k last in
          grind (arith, nat_tests)
      go (Some y) was =
          let f = puts.first d h in
          let s = i.sound d h y was in
          let look = lookup-push es k v y last in
          let above = lookup-above es k last in
          grind (arith, nat_tests)

  -- it is an index of the records with one more
  pub index-added : IsIndex q more
  index-added = record { finds = added-finds; sound = added-sound }

-- a record that is added and taken out again
pub filter-added : (es : Entries) (k : ℕ) (v : Record) → AllByRecursion (λ e. e.0 < k) es
    → filter (λ e. not (eqb e.0 k)) (es ++ (k, v) ∷ []) ≡ es
filter-added [] k v h = grind (arith, nat_tests)
filter-added (e ∷ es) k v h = grind (arith, nat_tests, filter-added es k v h.1, h.0)

-- one record less
module _ (p q : Places) (es : Entries) (k : ℕ) (r : Record) (rise : Rises es) (apart : IsApart es)
    (is : lookup (nat_eq k) es ≡ Some r) (i : IsIndex p es)
    (takes : TakesNode p q r.dir r.name (is_first p r.dir r.name k)) where
  -- the entries without it
  abbrev fewer : Entries
  fewer = filter (λ e. not (eqb e.0 k)) es

  -- what is found at a place
  taken-finds : (d : ℕ) (n : List ℕ)
      → found fewer n (first_in q d (hash_of n)) (other_in q d n) ≡ node_in fewer d n
  taken-finds d n = go (first_in p d (hash_of n)) refl
    where
      go : (o : Option ℕ) → first_in p d (hash_of n) ≡ o
          → found fewer n (first_in q d (hash_of n)) (other_in q d n) ≡ node_in fewer d n
      go None was =
          let f = takes.first d (hash_of n) in
          let g = takes.others d n in
          let step = node_in-left es k r rise apart is d n in
          let had = i.finds d n in
          grind (arith, nat_tests)
      go (Some x) was =
          let f = takes.first d (hash_of n) in
          let g = takes.others d n in
          let step = node_in-left es k r rise apart is d n in
          let had = i.finds d n in
          let itself = at-node es k r rise apart is d n in
          let look = lookup-filter es k x in
          let s = i.sound d (hash_of n) x was in
          let there = is in
          grind (arith, nat_tests)

  -- what stands under a hash
  taken-sound : (d h x : ℕ) → first_in q d h ≡ Some x → is_under_hash fewer d h x ≡ true
  taken-sound d h x now = go (first_in p d h) refl
    where
      go : (o : Option ℕ) → first_in p d h ≡ o → is_under_hash fewer d h x ≡ true
      go None was =
          let f = takes.first d h in
          grind (arith, nat_tests)
      go (Some y) was =
          let f = takes.first d h in
          let s = i.sound d h y was in
          let look = lookup-filter es k y in
          let there = is in
          grind (arith, nat_tests)

  -- it is an index of the records with one less
  pub index-taken : IsIndex q fewer
  index-taken = record { finds = taken-finds; sound = taken-sound }

-- a record altered that keeps its place
pub index-altered : (p : Places) (es : Entries) (k : ℕ) (f : Record → Record) → IsIndex p es
    → ((r : Record) → (f r).dir ≡ r.dir) → ((r : Record) → (f r).name ≡ r.name)
    → IsIndex p (altered k f es)
index-altered p es k f i dirs names = record {
  finds = λ d n.
      let had = i.finds d n in
      let step = node_in-altered es k f dirs names d n in
      grind (arith, nat_tests, lookup-altered es k f);
  sound = λ d h x is.
      let l = lookup-altered es k f x in let s = i.sound d h x is in grind (arith, nat_tests);
}
