-- The index: what a move makes of what it finds.
use Rattle.std.proofs.Common.{◌≡◌, ℕ, List, refl, arith, ap, ◌∙◌, Bool, true, false}
use Rattle.std.specs.Prelude.{not, cond, nat_eq, Option, Some, None, ◌&&◌, ◌==◌}
use Rattle.std.specs.Map.{lookup}
use Rattle.std.specs.Option.{option_map_or}
use Rattle.std.specs.Str.{bytes_eq}
use Rattle.std.proofs.lemmas.Bool.Decides.{nat_tests}
use Rattle.std.proofs.lemmas.Slice.Eq.{bytes_eq-Decides}
use Rattle.lq_value.specs.NameHash.{hash_of}
use Rattle.lq_volume_entries.specs.Record.{Record, Rises, node_in}
use Rattle.lq_volume_entries.specs.Edits.{altered, at_place, without}
use Rattle.lq_volume_entries.specs.PlaceIndex.{is_named, found, is_under_hash, IsIndex, CanMoveEntry}
use Rattle.lq_volume_entries.specs.declared.places.Places.{Places}
use Rattle.lq_volume_entries.specs.Places.{first_in, other_in, is_first, PutsNode, TakesNode}
use Rattle.lq_volume_entries.proofs.Puts.{is_free}
use Rattle.lq_volume_entries.proofs.RecordLemmas.{Entries, lookup-altered, node_in-some, Rises-altered}
use Rattle.lq_volume_entries.proofs.ByNode.{same_records}
use Rattle.lq_volume_entries.proofs.PlaceLemmas.{at-node, goes-there, look-new, node_in-moved, stays}

-- what stands under a hash after a put
put-first : (p q : Places) (dir : ℕ) (name : List ℕ) (node : ℕ) (over : Option ℕ)
    → PutsNode p q dir name node over → (d h : ℕ) (o : Option ℕ) → first_in p d h ≡ o
    → first_in q d h
    ≡ cond (is_free over o && ((d == dir) && (h == hash_of name))) (Some node) o
put-first p q dir name node over puts d h o was =
    let now = puts.first d h in grind (arith, nat_tests)

-- what stands under a name after a put
put-other : (p q : Places) (dir : ℕ) (name : List ℕ) (node : ℕ) (over : Option ℕ)
    → PutsNode p q dir name node over → (d : ℕ) (n : List ℕ) (o : Option ℕ)
    → first_in p d (hash_of n) ≡ o → other_in q d n
    ≡ cond (not (is_free over o) && ((d == dir) && bytes_eq name n)) (Some node) (other_in p d n)
put-other p q dir name node over puts d n o was =
    let now = puts.others d n in
    let same = bytes_eq-Decides name n in
    grind (arith, nat_tests)

-- what stands under a hash after a node was taken from its place
take-first : (p mid q : Places) (dir : ℕ) (name : List ℕ) (node : ℕ)
    → TakesNode mid q dir name (is_first p dir name node) → (d h : ℕ) (o : Option ℕ)
    → first_in p d h ≡ o → first_in q d h
    ≡ cond (option_map_or (λ there. there == node) o false && ((d == dir) && (h == hash_of name)))
    None (first_in mid d h)
take-first p mid q dir name node takes d h o was =
    let now = takes.first d h in grind (arith, nat_tests)

-- one node at another place, and perhaps another taken away
module _ (p mid q : Places) (es : Entries) (node dir : ℕ) (name : List ℕ) (other : Option ℕ)
    (r : Record) (rise : Rises es) (m : CanMoveEntry es node dir name other)
    (is : lookup (nat_eq node) es ≡ Some r) (i : IsIndex p es)
    (puts : PutsNode p mid dir name node other)
    (takes : TakesNode mid q r.dir r.name (is_first p r.dir r.name node))
    (away : ((r.dir == dir) && bytes_eq r.name name) ≡ false) where
  -- the entries after the move
  abbrev moved : Entries
  moved = altered node (at_place dir name) (without other es)

  -- whether a node goes
  abbrev goes : ℕ → Bool
  goes x = option_map_or (nat_eq x) other false

  -- what is looked up after the move
  look : (x : ℕ) → lookup (nat_eq x) moved
      ≡ cond (x == node) (Some (at_place dir name r)) (cond (goes x) None (lookup (nat_eq x) es))
  look x = look-new es node dir name other r rise m is x

  -- whether the node that moves stands under a hash and leaves it
  abbrev leaves : ℕ → ℕ → Option ℕ → Bool
  leaves d h o =
      option_map_or (λ there. there == node) o false && ((d == r.dir) && (h == hash_of r.name))

  -- whether it comes to a hash, which is free
  abbrev comes : ℕ → ℕ → Option ℕ → Bool
  comes d h o = is_free other o && ((d == dir) && (h == hash_of name))

  -- what stands under a hash after both edits
  after : (d h : ℕ) (o : Option ℕ) → first_in p d h ≡ o
      → first_in q d h ≡ cond (leaves d h o) None (cond (comes d h o) (Some node) o)
  after d h o was =
      take-first p mid q r.dir r.name node takes d h o was
      ∙ ap (λ (z : Option ℕ). cond (leaves d h o) None z)
      (put-first p mid dir name node other puts d h o was)

  -- what stands under a name after both edits
  others : (d : ℕ) (n : List ℕ) (o : Option ℕ) → first_in p d (hash_of n) ≡ o → other_in q d n
      ≡ cond ((d == r.dir) && bytes_eq r.name n) None
      (cond (not (is_free other o) && ((d == dir) && bytes_eq name n)) (Some node)
      (other_in p d n))
  others d n o was =
      takes.others d n ∙ ap (λ (z : Option ℕ). cond ((d == r.dir) && bytes_eq r.name n) None z)
      (put-other p mid dir name node other puts d n o was)

  -- where a node stood that goes, the node that moves stands
  replaced : (d h x : ℕ) → first_in p d h ≡ Some x → goes x ≡ true
      → (first_in q d h ≡ Some node) × (((d == dir) && (h == hash_of name)) ≡ true)
      × ((n : List ℕ) → is_named es n x ≡ bytes_eq name n)
  replaced d h x was gone =
      let kept = stays es node dir name other r rise m is in
      let f = after d h (Some x) was in
      let s = i.sound d h x was in
      let goes_x : other ≡ Some x = grind (arith, nat_tests) in
      let w = node_in-some es dir name x rise
      (goes-there es node dir name other r rise m is x goes_x) in
      let there = w.1 in
      let hash : hash_of w.0.name ≡ hash_of name = ap hash_of w.3 in
      let folder = w.2 in
      let new : ((d == dir) && (h == hash_of name)) ≡ true = grind (arith, nat_tests) in (
        grind (arith, nat_tests),
        new,
        (λ n. rw (w.1, w.3) refl),
      )

  -- what is found at a place
  moved-finds : (d : ℕ) (n : List ℕ)
      → found moved n (first_in q d (hash_of n)) (other_in q d n) ≡ node_in moved d n
  moved-finds d n = go (first_in p d (hash_of n)) refl
    where
      go : (o : Option ℕ) → first_in p d (hash_of n) ≡ o
          → found moved n (first_in q d (hash_of n)) (other_in q d n) ≡ node_in moved d n
      go None was =
          let f = after d (hash_of n) None was in
          let g = others d n None was in
          let name_is = bytes_eq-Decides name n in
          let here = look node in
          let had = i.finds d n in
          let now = node_in-moved es node dir name other r rise m is d n in
          grind (arith, nat_tests)
      go (Some x) was = at (goes x) refl
        where
          at : (b : Bool) → goes x ≡ b
              → found moved n (first_in q d (hash_of n)) (other_in q d n) ≡ node_in moved d n
          at true gone =
              let f = replaced d (hash_of n) x was gone in
              let old_name = f.2 n in
              let g = others d n (Some x) was in
              let here = look node in
              let had = i.finds d n in
              let now = node_in-moved es node dir name other r rise m is d n in
              grind (arith, nat_tests)
          at false kept =
              let f = after d (hash_of n) (Some x) was in
              let g = others d n (Some x) was in
              let there = look x in
              let s = i.sound d (hash_of n) x was in
              let had = i.finds d n in
              let itself = at-node es node r rise m.apart is d n in
              let other_is = m.other_is in
              let off = away in
              let new_name = bytes_eq-Decides name n in
              let old_name = bytes_eq-Decides r.name n in
              let names = bytes_eq-Decides r.name name in
              let now = node_in-moved es node dir name other r rise m is d n in
              grind (arith, nat_tests)

  -- what stands under a hash
  moved-sound : (d h x : ℕ) → first_in q d h ≡ Some x → is_under_hash moved d h x ≡ true
  moved-sound d h x now = go (first_in p d h) refl
    where
      go : (o : Option ℕ) → first_in p d h ≡ o → is_under_hash moved d h x ≡ true
      go None was =
          let f = after d h None was in
          let l = look node in
          grind (arith, nat_tests)
      go (Some y) was =
          let f = after d h (Some y) was in
          let gone = replaced d h y was in
          let s = i.sound d h y was in
          let l = look y in
          let here = look node in
          let there = is in
          grind (arith, nat_tests)

  -- it is an index of the records after the move
  pub index-moved : IsIndex q moved
  index-moved = record { finds = moved-finds; sound = moved-sound }

-- a record altered that comes out the same
altered-same : (es : Entries) (k : ℕ) (f : Record → Record) (r : Record) → Rises es
    → lookup (nat_eq k) es ≡ Some r → f r ≡ r → altered k f es ≡ es
altered-same es k f r rise is same = same_records (altered k f es) es (Rises-altered k f es rise)
    rise (λ n. let l = lookup-altered es k f n in grind (arith, nat_tests))

-- a node that is at its new place already
pub index-stays : (p : Places) (es : Entries) (node dir : ℕ) (name : List ℕ) (other : Option ℕ)
    (r : Record) → Rises es → CanMoveEntry es node dir name other → lookup (nat_eq node) es ≡ Some r
    → IsIndex p es → ((r.dir == dir) && bytes_eq r.name name) ≡ true
    → IsIndex p (altered node (at_place dir name) (without other es))
index-stays p es node dir name other r rise m is i at =
    let names = bytes_eq-Decides r.name name in
    let itself = at-node es node r rise m.apart is dir name in
    let other_is = m.other_is in
    let none : other ≡ None = grind (arith, nat_tests) in
    let same_dir : r.dir ≡ dir = grind (arith, nat_tests) in
    let same_name : r.name ≡ name = names.0 (grind (arith, nat_tests)) in
    let same : at_place dir name r ≡ r = rw (← same_dir, ← same_name) refl in
    rw (none, altered-same es node (at_place dir name) r rise is same) i
