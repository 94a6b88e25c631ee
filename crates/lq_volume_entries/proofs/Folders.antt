-- The entries in a folder: the index has the node of each, and those found under rising nodes that
-- include these are all of them.
use Rattle.std.proofs.Common.{◌≡◌, ℕ, inl, inr, Less, ◌+◌, ◌<◌, List, [], ◌∷◌, ◌++◌, sym, arith, eqb, ap, ◌∙◌, refl, Bool, get_or, length, take}
use Rattle.std.specs.Prelude.{nat_eq, slice_index, slice_index_or, Option, Some, None, option_and_then}
use Rattle.std.specs.List.{AllByRecursion, Contains, cons_option, filter_map}
use Rattle.std.specs.List.Sorted.{IsStrictlyIncreasing, IsStrictlySortedBy}
use Rattle.std.specs.Map.{lookup}
use Rattle.std.specs.Ordering.{nat_cmp}
use Rattle.std.proofs.lemmas.Bool.{cases_cond}
use Rattle.std.proofs.lemmas.Bool.Decides.{nat_tests}
use Rattle.std.proofs.lemmas.List.{append-nil, take_more}
use Rattle.std.proofs.lemmas.List.Elements.{All-contains, All-from_recursion, filter_map-append, recursion_from_All}
use Rattle.std.proofs.lemmas.Map.Keys.{sorted_from_strictly_increasing}
use Rattle.std.proofs.lemmas.Map.Views.{Contains-from_lookup, exact_unsigned_eq}
use Rattle.std.proofs.lemmas.Option.{option_and_then_some}
use Rattle.lq_value.specs.NameHash.{hash_of}
use Rattle.lq_value.specs.declared.entry.Entry.{Entry}
use Rattle.lq_volume_entries.specs.Folder.{HasNodesIn, entries_in, entry_in, with_entry}
use Rattle.lq_volume_entries.specs.Order.{RisesBy}
use Rattle.lq_volume_entries.specs.PlaceIndex.{found, is_named, IsApart, IsIndex}
use Rattle.lq_volume_entries.specs.declared.places.Places.{Places}
use Rattle.lq_volume_entries.specs.Places.{first_in, other_in}
use Rattle.lq_volume_entries.specs.Record.{Record, Rises, node_in, entry_of}
use Rattle.lq_volume_entries.proofs.ByNode.{node_of, pick, pick-node, rises_numbers}
use Rattle.lq_volume_entries.proofs.OrderLemmas.{all_both, all_picked, all_weaker, picked_all, picked-is, rises_picked, same_items}
use Rattle.lq_volume_entries.proofs.PlaceLemmas.{uniq}
use Rattle.lq_volume_entries.proofs.RecordLemmas.{Entries}

-- whether a record is in a folder
abbrev is_in : ℕ → ℕ × Record → Bool
is_in dir e = eqb e.1.dir dir

-- the index has the node of each record in a folder, under its hash or its name
pub has-nodes : (p : Places) (es : Entries) (dir : ℕ) (ns : List ℕ) → IsIndex p es → Rises es
    → IsApart es → ((h x : ℕ) → first_in p dir h ≡ Some x → Contains ns x)
    → ((n : List ℕ) (x : ℕ) → other_in p dir n ≡ Some x → Contains ns x) → HasNodesIn es dir ns
has-nodes p es dir ns i rise apart firsts others n r is same =
    at (first_in p dir (hash_of r.name)) refl
    (i.finds dir r.name ∙ rw (← same) (uniq es n r (node_in es r.dir r.name) rise apart is refl))
  where
    at : (o : Option ℕ) → first_in p dir (hash_of r.name) ≡ o
        → found es r.name o (other_in p dir r.name) ≡ Some n → Contains ns n
    at None none finds = others r.name n finds
    at (Some x) there finds =
        let which = cases_cond (is_named es r.name x) (Some x) (other_in p dir r.name) (Some n)
        (sym finds) in
        elim which [
          | inl is_x ↦ firsts (hash_of r.name) n (there ∙ sym is_x)
          | inr is_other ↦ others r.name n (sym is_other)
        ]

-- one node more is one entry more, if its record is in the folder
pub found-more : (es : Entries) (dir : ℕ) (ns : List ℕ) (i : ℕ) (found : List Entry) → i < length ns
    → found ≡ filter_map (entry_in es dir) (take i ns)
    → with_entry found (entry_in es dir (slice_index ns i))
    ≡ filter_map (entry_in es dir) (take (i + 1) ns)
found-more es dir ns i found below is =
    rw (
      take_more ns i 0 below,
      filter_map-append (entry_in es dir) (take i ns) (get_or ns i 0 ∷ []),
      ← is,
    )
    (at (entry_in es dir (get_or ns i 0)))
  where
    at : (e : Option Entry) → with_entry found e ≡ found ++ cons_option e []
    at e = grind (arith, nat_tests, append-nil found)

-- numbers that a comparison puts in order rise
rises_sorted : (ns : List ℕ) → IsStrictlySortedBy nat_cmp ns → RisesBy (λ n. n) ns
unfolding IsStrictlySortedBy
rises_sorted [] h = tt
rises_sorted (n ∷ ns) h = (
  all_weaker (λ m. nat_cmp n m ≡ Less) (λ m. n < m) ns (λ m low. grind (arith, nat_tests)) h.0,
  rises_sorted ns h.1,
)

-- each record is the one under its node
own_records : (es : Entries) → Rises es
    → AllByRecursion (λ e. lookup (nat_eq e.0) es ≡ Some e.1) es
own_records [] h = tt
own_records (e ∷ es) h = (
  grind (arith, nat_tests),
  all_both (λ (f : ℕ × Record). e.0 < f.0) (λ f. lookup (nat_eq f.0) es ≡ Some f.1)
      (λ f. lookup (nat_eq f.0) (e ∷ es) ≡ Some f.1) es
      (λ f low is. grind (arith, nat_tests)) h.0 (own_records es h.1),
)

-- the entry under the node of a record that is there
entry_in-is : (es : Entries) (dir : ℕ) (e : ℕ × Record) → lookup (nat_eq e.0) es ≡ Some e.1
    → entry_in es dir e.0 ≡ pick (is_in dir) e
entry_in-is es dir e is = ap (option_and_then (λ (r : Record). pick (is_in dir) (e.0, r))) is

-- an entry that is picked is of a record in the folder
is_in-picked : (dir : ℕ) (e : ℕ × Record) (f : Entry) → pick (is_in dir) e ≡ Some f → e.1.dir ≡ dir
is_in-picked dir e f found = grind (arith, nat_tests)

-- what is so of the entry of each record is so of one that is found
entry_in-has : (P : Entry → Type 0) (es : Entries) (dir n : ℕ) (e : Entry)
    → AllByRecursion (λ f. (g : Entry) → pick (is_in dir) f ≡ Some g → P g) es
    → entry_in es dir n ≡ Some e → P e
entry_in-has P es dir n e all found =
    option_and_then_some (λ (r : Record). pick (is_in dir) (n, r)) (lookup (nat_eq n) es) e found
    (λ r there is. All-contains (λ f. (g : Entry) → pick (is_in dir) f ≡ Some g → P g) es (n, r)
    (All-from_recursion (λ f. (g : Entry) → pick (is_in dir) f ≡ Some g → P g) es all)
    (Contains-from_lookup exact_unsigned_eq n r es there) e is)

-- an entry that is found has the node that was looked up
entry_in-node : (es : Entries) (dir n : ℕ) (e : Entry) → entry_in es dir n ≡ Some e → e.node ≡ n
entry_in-node es dir n e found =
    option_and_then_some (λ (r : Record). pick (is_in dir) (n, r)) (lookup (nat_eq n) es) e found
    (λ r there is. pick-node (is_in dir) (n, r) e is)

-- what is found under rising nodes that include the folder's own is all that is in it
pub found-all : (es : Entries) (dir : ℕ) (ns : List ℕ) → Rises es → IsStrictlyIncreasing ns
    → HasNodesIn es dir ns → filter_map (entry_in es dir) ns ≡ entries_in es dir
found-all es dir ns rise up has =
    same_items (λ (e : Entry). e.node) (filter_map (entry_in es dir) ns)
    (filter_map (pick (is_in dir)) es)
    (rises_picked (λ n. n) (λ (e : Entry). e.node) (entry_in es dir) ns (entry_in-node es dir)
    (rises_sorted ns (sorted_from_strictly_increasing ns up)))
    (rises_picked node_of (λ (e : Entry). e.node) (pick (is_in dir)) es (pick-node (is_in dir))
    (rises_numbers es rise))
    (λ P all. all_picked P (pick (is_in dir)) es
    (all_weaker (λ e. lookup (nat_eq e.0) es ≡ Some e.1)
    (λ e. (f : Entry) → pick (is_in dir) e ≡ Some f → P f) es
    (λ e is f found. All-contains (λ n. (g : Entry) → entry_in es dir n ≡ Some g → P g) ns e.0
    (All-from_recursion (λ n. (g : Entry) → entry_in es dir n ≡ Some g → P g) ns
    (picked_all P (entry_in es dir) ns all)) (has e.0 e.1 is (is_in-picked dir e f found)) f
    (entry_in-is es dir e is ∙ found)) (own_records es rise)))
    (λ P all. all_picked P (entry_in es dir) ns
    (recursion_from_All (λ n. (e : Entry) → entry_in es dir n ≡ Some e → P e) ns
    (λ k d l e found. entry_in-has P es dir (slice_index_or ns k d) e
    (picked_all P (pick (is_in dir)) es all) found)))
    ∙ sym (picked-is entry_of (is_in dir) es)
