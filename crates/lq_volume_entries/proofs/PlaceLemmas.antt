-- The index of places: what an edit of the records makes of each place.
use Rattle.std.proofs.Common.{◌≡◌, ℕ, ◌<◌, List, [], ◌∷◌, ◌++◌, refl, sym, arith, eqb, ap, ◌∙◌, Bool, true, false, inl, inr}
use Rattle.std.specs.Prelude.{not, filter, cond, nat_eq, Option, Some, None, is_some, ◌&&◌, ◌==◌}
use Rattle.std.specs.List.{AllByRecursion, list_any}
use Rattle.std.specs.Map.{lookup, values_of}
use Rattle.std.specs.Option.{option_map_or}
use Rattle.std.specs.Str.{bytes_eq}
use Rattle.std.proofs.lemmas.Bool.{cases_eq}
use Rattle.std.proofs.lemmas.Bool.Decides.{nat_tests}
use Rattle.std.proofs.lemmas.Slice.Eq.{bytes_eq-Decides}
use Rattle.lq_volume_entries.specs.Record.{Record, Rises, node_in}
use Rattle.lq_volume_entries.specs.Edits.{altered, at_place, without}
use Rattle.lq_volume_entries.specs.PlaceIndex.{IsApart, CanMoveEntry}
use Rattle.lq_volume_entries.proofs.RecordLemmas.{Entries, lookup-above, lookup-altered, lookup-filter, node_in-some, node_in-none, Rises-filter, Rises-without, Rises-front}

-- an entry in a folder has a place there
pub any-named : (es : Entries) (dir : ℕ) → list_any (λ r. r.dir == dir) (values_of es) ≡ true
    → (n : List ℕ) × (is_some (node_in es dir n) ≡ true)
any-named [] dir h = cc
any-named (e ∷ es) dir h = elim (cases_eq e.1.dir dir) [
  | inl same ↦ (e.1.name, let b = bytes_eq-Decides e.1.name e.1.name in grind (arith, nat_tests))
  | inr differs ↦
      let rest = any-named es dir (grind (arith, nat_tests)) in
      (rest.0, let k = rest.1 in grind (arith, nat_tests))
]

-- a folder in which a name is found has an entry
pub named-any : (es : Entries) (dir : ℕ) (n : List ℕ) → is_some (node_in es dir n) ≡ true
    → list_any (λ r. r.dir == dir) (values_of es) ≡ true
named-any [] dir n h = cc
named-any (e ∷ es) dir n h = grind (arith, nat_tests, named-any es dir n)

-- where no two share a place, the search finds each record at its own
pub uniq : (fs : Entries) (x : ℕ) (v : Record) (o : Option ℕ) → Rises fs → IsApart fs
    → lookup (nat_eq x) fs ≡ Some v → node_in fs v.dir v.name ≡ o → o ≡ Some x
uniq fs x v None h apart is found = absurd (node_in-none fs v.dir v.name x v found is refl refl)
uniq fs x v (Some y) h apart is found =
    let w = node_in-some fs v.dir v.name y h found in
    ap Some (sym (apart x y v w.0 is w.1 (sym w.2) (sym w.3)))

-- with one more record at a free place, that place has its node, and no other place changes
pub node_in-push : (es : Entries) (k : ℕ) (v : Record) (d : ℕ) (n : List ℕ)
    → node_in es v.dir v.name ≡ None
    → cond ((d == v.dir) && bytes_eq v.name n) (Some k) (node_in es d n)
    ≡ node_in (es ++ (k, v) ∷ []) d n
node_in-push [] k v d n free = grind (arith, nat_tests)
node_in-push (e ∷ es) k v d n free =
    let a = bytes_eq-Decides e.1.name v.name in
    let b = bytes_eq-Decides e.1.name n in
    let c = bytes_eq-Decides v.name n in
    grind (arith, nat_tests, node_in-push es k v d n)

-- a place that a node doesn't have is the same without it
left-same : (es : Entries) (k d : ℕ) (n : List ℕ)
    → option_map_or (nat_eq k) (node_in es d n) false ≡ false
    → node_in (filter (λ e. not (eqb e.0 k)) es) d n ≡ node_in es d n
left-same [] k d n off = refl
left-same (e ∷ es) k d n off = grind (arith, nat_tests, left-same es k d n)

-- one record less
module _ (es : Entries) (k : ℕ) (r : Record) (rise : Rises es) (apart : IsApart es)
    (is : lookup (nat_eq k) es ≡ Some r) where
  -- the entries without that node
  abbrev left : Entries
  left = filter (λ e. not (eqb e.0 k)) es

  -- the node has its place and no other
  pub at-node : (d : ℕ) (n : List ℕ)
      → ((d == r.dir) && bytes_eq r.name n) ≡ option_map_or (nat_eq k) (node_in es d n) false
  at-node d n = go (node_in es d n) refl
    where
      go : (o : Option ℕ) → node_in es d n ≡ o
          → ((d == r.dir) && bytes_eq r.name n) ≡ option_map_or (nat_eq k) o false
      go None found =
          let same = bytes_eq-Decides r.name n in
          let none = node_in-none es d n k r found is in
          grind (arith, nat_tests)
      go (Some x) found =
          let same = bytes_eq-Decides r.name n in
          let w = node_in-some es d n x rise found in
          let look = w.1 in
          let dir = w.2 in
          let name = w.3 in
          let one = apart x k w.0 r w.1 is in
          grind (arith, nat_tests)

  -- with one record less, its place is free and no other place changes
  pub node_in-left : (d : ℕ) (n : List ℕ)
      → cond ((d == r.dir) && bytes_eq r.name n) None (node_in es d n) ≡ node_in left d n
  node_in-left d n = go (node_in left d n) refl
    where
      go : (o : Option ℕ) → node_in left d n ≡ o
          → cond ((d == r.dir) && bytes_eq r.name n) None (node_in es d n) ≡ node_in left d n
      go None found =
          let itself = at-node d n in
          let same = left-same es k d n in
          grind (arith, nat_tests)
      go (Some x) found =
          let itself = at-node d n in
          let same = left-same es k d n in
          let w = node_in-some left d n x (Rises-filter (λ e. not (eqb e.0 k)) es rise) found in
          let look = w.1 in
          let dir = w.2 in
          let name = w.3 in
          let old = lookup-filter es k x in
          let one = apart x k w.0 r in
          let there = is in
          let names = bytes_eq-Decides r.name n in
          grind (arith, nat_tests)

-- a node that has no record, taken out
pub node_in-absent : (es : Entries) (k : ℕ) → lookup (nat_eq k) es ≡ None
    → filter (λ e. not (eqb e.0 k)) es ≡ es
node_in-absent [] k h = refl
node_in-absent (e ∷ es) k h = grind (arith, nat_tests, node_in-absent es k)

-- a record altered that keeps its place
pub node_in-altered : (es : Entries) (k : ℕ) (f : Record → Record)
    → ((r : Record) → (f r).dir ≡ r.dir) → ((r : Record) → (f r).name ≡ r.name)
    → (d : ℕ) (n : List ℕ) → node_in (altered k f es) d n ≡ node_in es d n
node_in-altered [] k f dirs names d n = refl
node_in-altered (e ∷ es) k f dirs names d n =
    let a = dirs e.1 in
    let b = names e.1 in
    grind (arith, nat_tests, node_in-altered es k f dirs names d n)

-- a place has no node before the one that is found there
node_in-before : (es fs : Entries) (e : ℕ × Record) (d : ℕ) (n : List ℕ)
    → AllByRecursion (λ f. f.0 < e.0) es → node_in (es ++ e ∷ fs) d n ≡ Some e.0
    → node_in es d n ≡ None
node_in-before [] fs e d n low found = refl
node_in-before (f ∷ es) fs e d n low found =
    let first = low.0 in grind (arith, nat_tests, node_in-before es fs e d n low.1)

-- a node that the front doesn't have is found after it
lookup-next : (es fs : Entries) (e : ℕ × Record) → lookup (nat_eq e.0) es ≡ None
    → lookup (nat_eq e.0) (es ++ e ∷ fs) ≡ Some e.1
lookup-next [] fs e h = grind (arith, nat_tests)
lookup-next (f ∷ es) fs e h = grind (arith, nat_tests, lookup-next es fs e)

-- the place of a record is free in the records before it
pub node_in-next : (es fs : Entries) (e : ℕ × Record) → Rises (es ++ e ∷ fs)
    → IsApart (es ++ e ∷ fs) → node_in es e.1.dir e.1.name ≡ None
node_in-next es fs e rise apart =
    let front = Rises-front es fs e rise in
    node_in-before es fs e e.1.dir e.1.name front
    (uniq (es ++ e ∷ fs) e.0 e.1 (node_in (es ++ e ∷ fs) e.1.dir e.1.name) rise apart
    (lookup-next es fs e (lookup-above es e.0 front)) refl)

-- a record at another place is found at no third place
placed-off : (es : Entries) (k dir : ℕ) (name : List ℕ) (d : ℕ) (n : List ℕ)
    → ((d == dir) && bytes_eq name n) ≡ false
    → node_in (altered k (at_place dir name) es) d n
    ≡ node_in (filter (λ e. not (eqb e.0 k)) es) d n
placed-off [] k dir name d n off = refl
placed-off (e ∷ es) k dir name d n off =
    grind (arith, nat_tests, placed-off es k dir name d n)

-- it is found at that place, where no other record is
placed-here : (es : Entries) (k dir : ℕ) (name : List ℕ) (d : ℕ) (n : List ℕ)
    → ((d == dir) && bytes_eq name n) ≡ true → is_some (lookup (nat_eq k) es) ≡ true
    → node_in (filter (λ e. not (eqb e.0 k)) es) d n ≡ None
    → node_in (altered k (at_place dir name) es) d n ≡ Some k
placed-here [] k dir name d n here there free = cc
placed-here (e ∷ es) k dir name d n here there free =
    grind (arith, nat_tests, placed-here es k dir name d n)

-- a look-up without a node that may go
look-without : (other : Option ℕ) (es : Entries) (x : ℕ) → lookup (nat_eq x) (without other es)
    ≡ cond (option_map_or (nat_eq x) other false) None (lookup (nat_eq x) es)
look-without None es x = refl
look-without (Some k) es x = lookup-filter es k x

-- one node at another place, and perhaps another taken away
module _ (es : Entries) (node dir : ℕ) (name : List ℕ) (other : Option ℕ)
    (r : Record) (rise : Rises es) (m : CanMoveEntry es node dir name other)
    (is : lookup (nat_eq node) es ≡ Some r) where
  -- the entries without the node that goes
  abbrev others : Entries
  others = without other es

  -- the entries after the move
  abbrev new : Entries
  new = altered node (at_place dir name) others

  -- the node that moves doesn't go
  pub stays : option_map_or (nat_eq node) other false ≡ false
  stays = let o = m.other_is in grind (arith, nat_tests)

  -- the node that goes is the one at the new place
  pub goes-there : (x : ℕ) → other ≡ Some x → node_in es dir name ≡ Some x
  goes-there x goes = let o = m.other_is in grind (arith, nat_tests)

  -- the node that moves is among the others
  look-node : lookup (nat_eq node) others ≡ Some r
  look-node =
      look-without other es node
      ∙ (ap (λ (b : Bool). cond b None (lookup (nat_eq node) es)) stays ∙ is)

  -- what is looked up after the move
  pub look-new : (x : ℕ) → lookup (nat_eq x) new ≡ cond (eqb x node) (Some (at_place dir name r))
      (cond (option_map_or (nat_eq x) other false) None (lookup (nat_eq x) es))
  look-new x =
      let l = lookup-altered others node (at_place dir name) x in
      let k = look-without other es x in
      let here = look-node in
      grind (arith, nat_tests)

  -- no two of the others share a place
  apart-others : IsApart others
  apart-others x y q v a b =
      let k = look-without other es x in
      let l = look-without other es y in
      let one = m.apart x y q v in
      λ dir name. grind (arith, nat_tests)

  -- the new place is free among the others if a node goes, and no other place changes
  node_in-others : (d : ℕ) (n : List ℕ) → node_in others d n
      ≡ cond (is_some other && ((d == dir) && bytes_eq name n)) None (node_in es d n)
  node_in-others d n = go other refl
    where
      go : (o : Option ℕ) → other ≡ o → node_in (without o es) d n
          ≡ cond (is_some o && ((d == dir) && bytes_eq name n)) None (node_in es d n)
      go None e = refl
      go (Some x) e =
          let w = node_in-some es dir name x rise (goes-there x e) in
          sym (rw (w.2, w.3) at (node_in-left es x w.0 rise m.apart w.1 d n))

  -- a move frees the old place, fills the new one and changes no other
  pub node_in-moved : (d : ℕ) (n : List ℕ) → node_in new d n
      ≡ cond ((d == dir) && bytes_eq name n) (Some node)
      (cond ((d == r.dir) && bytes_eq r.name n) None (node_in es d n))
  node_in-moved d n =
      let rises = Rises-without other es rise in
      let left = node_in-left others node r rises apart-others look-node d n in
      let without_other = node_in-others d n in
      let off = placed-off others node dir name d n in
      let here = placed-here others node dir name d n in
      let there = look-node in
      let itself = at-node es node r rise m.apart is d n in
      let other_is = m.other_is in
      let names = bytes_eq-Decides name n in
      grind (arith, nat_tests)
