-- What an edit of a map from nodes to locations does to the entries.
use Rattle.std.proofs.Common.{◌≡◌, ℕ, zero, suc, ◌+◌, ◌<◌, List, [], ◌∷◌, ◌++◌, length, take, get_or, refl, sym, ap, ◌∙◌, false, arith, inl, inr}
use Rattle.std.specs.Prelude.{Some, None, is_some, ◌==◌, ◌&&◌}
use Rattle.std.specs.Option.{option_map, option_map_or}
use Rattle.std.specs.List.{AllByRecursion}
use Rattle.std.specs.Str.{bytes_eq}
use Rattle.std.specs.BTreeMap.{insert_entry, is_at}
use Rattle.std.specs.Map.{lookup, remove_entry}
use Rattle.std.specs.Ordering.{nat_cmp}
use Rattle.std.proofs.lemmas.Bool.{cases_eq, cases_lt}
use Rattle.std.proofs.lemmas.Bool.Decides.{nat_tests}
use Rattle.std.proofs.lemmas.List.{take_more}
use Rattle.lq_value.specs.declared.entry.Entry.{Entry}
use Rattle.lq_update.specs.declared.locations.Location.{Location}
use Rattle.lq_update.specs.Diff.{same_entry, has_node}
use Rattle.lq_update.specs.Fold.{EntriesRise, taken_out, put_in, has_entry}
use Rattle.lq_update.specs.Locations.{entry_under, entries_of}
use Rattle.lq_update.proofs.EntryLemmas.{Above, entry_at, same-self, above-lower, at-above, has_entry-at}
use Rattle.lq_update.proofs.PlaceLemmas.{above-get, taken_out-above, put_in-above}

-- nodes with their locations
abbrev pub Located : Type 0
Located = List (ℕ × Location)

-- the entry found for a node is that of the location under it
pub entry_at-lookup : (n : ℕ) (ls : Located) → entry_at n (entries_of ls)
    ≡ option_map (λ l. entry_under (n, l)) (lookup (is_at (nat_cmp n)) ls)
entry_at-lookup n [] = refl
entry_at-lookup n (l ∷ ls) = grind (arith, nat_tests, entry_at-lookup n ls)

-- a node is there just where it has a location
pub has_node-lookup : (n : ℕ) (ls : Located)
    → has_node n (entries_of ls) ≡ is_some (lookup (is_at (nat_cmp n)) ls)
has_node-lookup n [] = refl
has_node-lookup n (l ∷ ls) = grind (arith, nat_tests, has_node-lookup n ls)

-- a triple is there just where it is the entry of the location under its node
has_entry-lookup : (e : Entry) (ls : Located) → EntriesRise (entries_of ls)
    → has_entry e (entries_of ls) ≡ option_map_or (same_entry e)
    (option_map (λ l. entry_under (e.node, l)) (lookup (is_at (nat_cmp e.node)) ls)) false
has_entry-lookup e ls h = has_entry-at e (entries_of ls) h
    ∙ ap (λ o. option_map_or (same_entry e) o false) (entry_at-lookup e.node ls)

-- where its node has no location it isn't there
pub has_entry-none : (e : Entry) (ls : Located) → EntriesRise (entries_of ls)
    → lookup (is_at (nat_cmp e.node)) ls ≡ None → has_entry e (entries_of ls) ≡ false
has_entry-none e ls h none = has_entry-lookup e ls h ∙ rw none refl

-- and else where it has that one
pub has_entry-some : (e : Entry) (ls : Located) (l : Location) → EntriesRise (entries_of ls)
    → lookup (is_at (nat_cmp e.node)) ls ≡ Some l
    → has_entry e (entries_of ls) ≡ ((e.dir == l.dir) && bytes_eq e.name l.name)
has_entry-some e ls l h some = has_entry-lookup e ls h ∙ rw some (grind (arith, nat_tests))

-- a location under a node that had none puts its entry in
pub insert-put : (ls : Located) (n : ℕ) (l : Location) → has_node n (entries_of ls) ≡ false
    → entries_of (insert_entry nat_cmp ls n l) ≡ put_in (entry_under (n, l)) (entries_of ls)
insert-put [] n l lacks = refl
insert-put (k ∷ ls) n l lacks = grind (arith, nat_tests, insert-put ls n l)

-- without its node's location a triple is taken out
pub remove-taken : (ls : Located) (e : Entry) → EntriesRise (entries_of ls)
    → entry_at e.node (entries_of ls) ≡ Some e
    → entries_of (remove_entry (is_at (nat_cmp e.node)) ls) ≡ taken_out e (entries_of ls)
remove-taken [] e h is = refl
remove-taken (l ∷ ls) e h is = elim (cases_eq l.0 e.node) [
  | inl same ↦
      let rest = taken_out-above e (entries_of ls) (rw (← same) h.0) in
      grind (arith, nat_tests, same-self e)
  | inr differs ↦ grind (arith, nat_tests, remove-taken ls e h.1 (grind (arith, nat_tests)))
]

-- another location under a node puts its entry in for the triple that the node had
pub insert-replaced : (ls : Located) (e : Entry) (l : Location) → EntriesRise (entries_of ls)
    → entry_at e.node (entries_of ls) ≡ Some e
    → entries_of (insert_entry nat_cmp ls e.node l)
    ≡ put_in (entry_under (e.node, l)) (taken_out e (entries_of ls))
insert-replaced [] e l h is = cc
insert-replaced (k ∷ ls) e l h is = elim (cases_lt e.node k.0) [
  | inl low ↦
      let above = above-lower e.node k.0 (entries_of ls) low h.0 in
      let none = at-above e.node (entries_of (k ∷ ls)) (low, above) in
      cc
  | inr high ↦ elim (cases_eq k.0 e.node) [
    | inl same ↦
        let above : Above e.node (entries_of ls) = rw (← same) h.0 in
        let rest = taken_out-above e (entries_of ls) above in
        let put = put_in-above (entry_under (e.node, l)) (entries_of ls) above in
        grind (arith, nat_tests, same-self e)
    | inr differs ↦ grind (arith, nat_tests, insert-replaced ls e l h.1 (grind (arith, nat_tests)))
  ]
]

-- the location that a node had, put in again after another one, leaves all as it was
pub insert-back : (ls : Located) (n : ℕ) (l before : Location) → EntriesRise (entries_of ls)
    → lookup (is_at (nat_cmp n)) ls ≡ Some before
    → insert_entry nat_cmp (insert_entry nat_cmp ls n l) n before ≡ ls
insert-back [] n l before h is = cc
insert-back (k ∷ ls) n l before h is = elim (cases_lt n k.0) [
  | inl low ↦
      let above = above-lower n k.0 (entries_of ls) low h.0 in
      let none = at-above n (entries_of (k ∷ ls)) (low, above) in
      let found = entry_at-lookup n (k ∷ ls) in
      cc
  | inr high ↦ grind (arith, nat_tests, insert-back ls n l before h.1)
]

-- ---- one location after another, by rising node

-- each entry of a list has a node below this one
abbrev Below : ℕ → List Entry → Type 0
Below n es = AllByRecursion (λ f. f.node < n) es

-- the entries before a place have lower nodes than the one there
below-get : (es : List Entry) (i : ℕ) (d : Entry) → EntriesRise es → i < length es
    → Below (get_or es i d).node (take i es)
below-get [] i d h lt = absurd (omega arith)
below-get (e ∷ es) zero d h lt = tt
below-get (e ∷ es) (suc i) d h lt =
    (above-get e.node es i d h.0 (omega arith), below-get es i d h.1 (omega arith))

-- a node above all others isn't there
has_node-below : (n : ℕ) (es : List Entry) → Below n es → has_node n es ≡ false
has_node-below n [] h = refl
has_node-below n (e ∷ es) h = grind (arith, nat_tests, h.0, has_node-below n es h.1)

-- an entry above all others is put in at the end
put_in-below : (e : Entry) (es : List Entry) → Below e.node es → put_in e es ≡ es ++ e ∷ []
put_in-below e [] h = refl
put_in-below e (f ∷ es) h = grind (arith, nat_tests, h.0, put_in-below e es h.1)

-- with the location of the next entry, those so far are of one entry more
pub insert-next : (ls : Located) (es : List Entry) (i : ℕ) (e : Entry) → EntriesRise es
    → i < length es → e ≡ get_or es i e → entries_of ls ≡ take i es
    → entries_of (insert_entry nat_cmp ls e.node (record { dir = e.dir; name = e.name }))
    ≡ take (i + 1) es
insert-next ls es i e h lt is so_far =
    let below : Below e.node (take i es) = rw (← is) at (below-get es i e h lt) in
    let lacks : has_node e.node (entries_of ls) ≡ false =
    ap (has_node e.node) so_far ∙ has_node-below e.node (take i es) below in
    insert-put ls e.node (record { dir = e.dir; name = e.name }) lacks
    ∙ (ap (λ fs. put_in e fs) so_far
    ∙ (put_in-below e (take i es) below
    ∙ (ap (λ f. take i es ++ f ∷ []) is ∙ sym (take_more es i e lt))))
