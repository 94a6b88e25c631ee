-- Records by rising node: each look-up finds the same as before they were ordered, and what is
-- found in each is all of it.
use Rattle.std.proofs.Common.{◌≡◌, ℕ, ◌<◌, List, [], ◌∷◌, ◌++◌, refl, subst, sym, arith, eqb, ap, ◌∙◌, Bool, cond, map, filter, length, IsPermutation}
use Rattle.std.specs.Prelude.{nat_eq, not, IsSome, Option, Some, None}
use Rattle.std.specs.Borrow.{Bor}
use Rattle.std.specs.List.{AllByRecursion, IsDistinct, filter_map}
use Rattle.std.specs.List.Sorted.{IsNonDecreasingBy}
use Rattle.std.specs.Map.{lookup, keys_of}
use Rattle.std.proofs.lemmas.Bool.Decides.{nat_tests}
use Rattle.std.proofs.lemmas.List.Sorted.{IsPermutation-map, IsPermutation-sym, IsPermutation-trans, length_permutation}
use Rattle.std.proofs.lemmas.Map.Made.{IsDistinct-keys_filter}
use Rattle.std.proofs.lemmas.Simd.{map-map}
use Rattle.lq_value.specs.declared.entry.Entry.{Entry}
use Rattle.lq_volume_entries.specs.Edits.{altered}
use Rattle.lq_volume_entries.specs.Order.{insert_by, by_node, shown_pair, RisesBy}
use Rattle.lq_volume_entries.specs.Record.{Record, Rises, entry_of}
use Rattle.lq_volume_entries.proofs.OrderLemmas.{all_picked, covers-moved, moves-ordered, picked_all, picked-is, rises_map, rises_moved, rises_ordered, rises_picked, same_items}
use Rattle.lq_volume_entries.proofs.RecordLemmas.{Entries, altered-absent, lookup-below, lookup-altered, lookup-filter, lookup-push, Rises-altered, Rises-filter, Rises-push}

-- the node of a record
abbrev pub node_of : ℕ × Record → ℕ
node_of e = e.0

-- the entry of a record that passes a test
abbrev pub pick : (ℕ × Record → Bool) → ℕ × Record → Option Entry
pick test e = cond (test e) (Some (entry_of e)) None

-- the entry that is picked has its record's node
pub pick-node : (test : ℕ × Record → Bool) (e : ℕ × Record) (f : Entry) → pick test e ≡ Some f
    → f.node ≡ e.0
pick-node test e f found = grind (arith, nat_tests)

-- a look-up with one more record finds it, or what it found before
lookup-insert_by : (n : ℕ) (e : ℕ × Record) (es : Entries)
    → lookup (nat_eq n) (insert_by (λ f. f.0) e es)
    ≡ cond (eqb n e.0) (Some e.1) (lookup (nat_eq n) es)
lookup-insert_by n e [] = refl
lookup-insert_by n e (f ∷ es) = grind (arith, nat_tests, lookup-insert_by n e es)

-- a look-up finds the same in records by rising node
pub lookup-by_node : (es : Entries) (n : ℕ)
    → lookup (nat_eq n) (by_node es) ≡ lookup (nat_eq n) es
lookup-by_node [] n = refl
lookup-by_node (e ∷ es) n = lookup-insert_by n e (by_node es)
    ∙ ap (cond (eqb n e.0) (Some e.1)) (lookup-by_node es n)

-- nodes that rise as numbers rise
Rises-from_numbers : (es : Entries) → RisesBy node_of es → Rises es
Rises-from_numbers [] h = tt
Rises-from_numbers (e ∷ es) h = (h.0, Rises-from_numbers es h.1)

-- the same back
pub rises_numbers : (es : Entries) → Rises es → RisesBy node_of es
rises_numbers [] h = tt
rises_numbers (e ∷ es) h = (h.0, rises_numbers es h.1)

-- nodes that differ rise in order
pub Rises-by_node : (es : Entries) → IsDistinct eqb (keys_of es) → Rises (by_node es)
Rises-by_node es own = Rises-from_numbers (by_node es) (rises_ordered node_of es own)

-- there are as many records in order
pub length-by_node : (es : Entries) → length (by_node es) ≡ length es
length-by_node es = length_permutation es (by_node es) (moves-ordered node_of es)

-- records whose nodes rise are one where the same is found under each node
pub same_records : (es fs : Entries) → Rises es → Rises fs
    → ((n : ℕ) → lookup (nat_eq n) es ≡ lookup (nat_eq n) fs) → es ≡ fs
same_records [] [] h k same = refl
same_records [] (f ∷ fs) h k same = let found = same f.0 in grind (arith, nat_tests)
same_records (e ∷ es) [] h k same = let found = same e.0 in grind (arith, nat_tests)
same_records (e ∷ es) (f ∷ fs) h k same =
    let below = lookup-below es f.0 e.0 h.0 in
    let above = lookup-below fs e.0 f.0 k.0 in
    let here = same e.0 in
    let there = same f.0 in
    let node : e.0 ≡ f.0 = grind (arith, nat_tests) in
    let value : e.1 ≡ f.1 = grind (arith, nat_tests) in
    let rest : es ≡ fs = same_records es fs h.1 k.1 (λ n.
    let a = lookup-below es n e.0 h.0 in
    let b = lookup-below fs n f.0 k.0 in
    let at = same n in grind (arith, nat_tests)) in
    λ j. (node j, value j) ∷ rest j

-- records in order are the list whose nodes rise and in which each look-up finds the same
pub by_node-is : (es fs : Entries) → IsDistinct eqb (keys_of es) → Rises fs
    → ((n : ℕ) → lookup (nat_eq n) es ≡ lookup (nat_eq n) fs) → by_node es ≡ fs
by_node-is es fs own rise same = same_records (by_node es) fs (Rises-by_node es own) rise
    (λ n. lookup-by_node es n ∙ same n)

-- records in order where one that is above all others was added
pub by_node-added : (es fs : Entries) (k : ℕ) (r : Record) → Rises (by_node es)
    → AllByRecursion (λ e. e.0 < k) (by_node es) → IsDistinct eqb (keys_of fs)
    → ((n : ℕ) → lookup (nat_eq n) fs ≡ cond (eqb k n) (Some r) (lookup (nat_eq n) es))
    → by_node fs ≡ by_node es ++ (k, r) ∷ []
by_node-added es fs k r rise last own found =
    by_node-is fs (by_node es ++ (k, r) ∷ []) own (Rises-push (by_node es) k r rise last)
    (λ n. let is = found n in let was = lookup-by_node es n in
    let next = lookup-push (by_node es) k r n last in grind (arith, nat_tests))

-- records in order where one was taken out
pub by_node-removed : (es fs : Entries) (k : ℕ) → Rises (by_node es) → IsDistinct eqb (keys_of fs)
    → ((n : ℕ) → lookup (nat_eq n) fs ≡ cond (eqb k n) None (lookup (nat_eq n) es))
    → by_node fs ≡ filter (λ e. not (eqb e.0 k)) (by_node es)
by_node-removed es fs k rise own found =
    by_node-is fs (filter (λ e. not (eqb e.0 k)) (by_node es)) own
    (Rises-filter (λ e. not (eqb e.0 k)) (by_node es) rise)
    (λ n. let is = found n in let was = lookup-by_node es n in
    let next = lookup-filter (by_node es) k n in grind (arith, nat_tests))

-- records in order where one was altered
pub by_node-altered : (es fs : Entries) (k : ℕ) (g : Record → Record) (r w : Record) → w ≡ g r
    → Rises (by_node es) → IsDistinct eqb (keys_of fs) → Some r ≡ lookup (nat_eq k) es
    → (IsSome (lookup (nat_eq k) es) → (n : ℕ)
    → lookup (nat_eq n) fs ≡ cond (eqb k n) (Some w) (lookup (nat_eq n) es))
    → by_node fs ≡ altered k g (by_node es)
by_node-altered es fs k g r w value rise own there found =
    by_node-is fs (altered k g (by_node es)) own (Rises-altered k g (by_node es) rise) (λ n.
    let is = found (subst (λ (o : Option Record). IsSome o) there refl) n in
    let was = lookup-by_node es n in
    let next = lookup-altered (by_node es) k g n in grind (arith, nat_tests))

-- records in order where none was there to alter
pub by_node-absent : (es : Entries) (k : ℕ) (g : Record → Record) → None ≡ lookup (nat_eq k) es
    → by_node es ≡ altered k g (by_node es)
by_node-absent es k g none = sym (altered-absent (by_node es) k g (lookup-by_node es k ∙ sym none))

-- records in order where one was written as it was
pub by_node-same : (es fs : Entries) (k : ℕ) (r w : Record) → w ≡ r → Rises (by_node es)
    → IsDistinct eqb (keys_of fs) → Some r ≡ lookup (nat_eq k) es
    → (IsSome (lookup (nat_eq k) es) → (n : ℕ)
    → lookup (nat_eq n) fs ≡ cond (eqb k n) (Some w) (lookup (nat_eq n) es))
    → by_node fs ≡ by_node es
by_node-same es fs k r w value rise own there found = by_node-is fs (by_node es) own rise (λ n.
    let is = found (subst (λ (o : Option Record). IsSome o) there refl) n in
    let was = lookup-by_node es n in grind (arith, nat_tests))

-- records with their nodes, moved until these don't fall, are those in order
pub pairs-ordered : (es : Entries) (pairs moved : List (ℕ × Bor Record))
    → IsDistinct eqb (keys_of es) → map shown_pair pairs ≡ es → IsPermutation pairs moved
    → IsNonDecreasingBy (λ (p : ℕ × Bor Record). p.0) moved → map shown_pair moved ≡ by_node es
pairs-ordered es pairs moved own is moves up =
    let number : ℕ × Bor Record → ℕ = λ p. p.0 in
    let theirs : IsDistinct eqb (map number pairs) =
    rw (← map-map node_of shown_pair pairs, is) own in
    let there : IsPermutation es (map shown_pair moved) =
    rw is at (IsPermutation-map shown_pair pairs moved moves) in
    let both = IsPermutation-trans (map shown_pair moved) es (by_node es)
    (IsPermutation-sym es (map shown_pair moved) there) (moves-ordered node_of es) in
    same_items node_of (map shown_pair moved) (by_node es)
    (rises_map shown_pair node_of moved (rises_moved number pairs moved moves up theirs))
    (rises_ordered node_of es own) (covers-moved (map shown_pair moved) (by_node es) both)
    (covers-moved (by_node es) (map shown_pair moved)
    (IsPermutation-sym (map shown_pair moved) (by_node es) both))

-- the entries that a query finds, moved until their nodes don't fall, are those of the records in
-- order
pub finds-ordered : (es : Entries) (test : ℕ × Record → Bool) (finds moved : List Entry)
    → IsDistinct eqb (keys_of es) → finds ≡ map entry_of (filter test es)
    → IsPermutation finds moved → IsNonDecreasingBy (λ (e : Entry). e.node) moved
    → moved ≡ map entry_of (filter test (by_node es))
finds-ordered es test finds moved own is moves up =
    let number : Entry → ℕ = λ e. e.node in
    let theirs : IsDistinct eqb (map number finds) =
    rw (is, map-map number entry_of (filter test es)) (IsDistinct-keys_filter eqb test es own) in
    let there : IsPermutation (filter_map (pick test) es) moved =
    rw (is, picked-is entry_of test es) at moves in
    let order = moves-ordered node_of es in
    same_items number moved (filter_map (pick test) (by_node es))
    (rises_moved number finds moved moves up theirs)
    (rises_picked node_of number (pick test) (by_node es) (pick-node test)
    (rises_ordered node_of es own))
    (λ P all. all_picked P (pick test) (by_node es) (covers-moved es (by_node es) order _
    (picked_all P (pick test) es (covers-moved moved (filter_map (pick test) es)
    (IsPermutation-sym (filter_map (pick test) es) moved there) P all))))
    (λ P all. covers-moved (filter_map (pick test) es) moved there P (all_picked P (pick test) es
    (covers-moved (by_node es) es (IsPermutation-sym es (by_node es) order) _
    (picked_all P (pick test) (by_node es) all))))
    ∙ sym (picked-is entry_of test (by_node es))
