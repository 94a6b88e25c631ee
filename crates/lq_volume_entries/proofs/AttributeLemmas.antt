-- What a setting and a removal make of a list of attributes with names of their own, and what a map
-- makes of one.
use Rattle.std.proofs.Common.{◌≡◌, ◌<◌, ◌+◌, ℕ, zero, suc, add-one, List, [], ◌∷◌, ◌++◌, append_assoc, refl, sym, arith, ap, ◌∙◌, Bool, true, false, drop-cons}
use Rattle.std.specs.Prelude.{not, cond, Some, None, slice_get, slice_index_or, length, drop, if◌then◌else◌}
use Rattle.std.specs.Cmp.{decided}
use Rattle.std.specs.List.{AllByRecursion, IsDistinct, list_any, slice_set, remove}
use Rattle.std.specs.Map.{keys_of, remove_entry}
use Rattle.std.specs.Option.{option_map}
use Rattle.std.specs.Str.{bytes_eq}
use Rattle.std.proofs.lemmas.Bool.Decides.{nat_tests}
use Rattle.std.proofs.lemmas.List.{append-nil}
use Rattle.std.proofs.lemmas.Map.{lookup-none}
use Rattle.std.proofs.lemmas.Map.Keys.{IsDistinct-push}
use Rattle.std.proofs.lemmas.Map.Made.{IsDistinct-keys_filter}
use Rattle.std.proofs.lemmas.Slice.Eq.{bytes_eq-Decides}
use Rattle.indexmap.proofs.SetLemmas.{keys_insert_entry}
use Rattle.indexmap.specs.IndexMap.{insert_all}
use Rattle.lq_value.specs.declared.value.Value.{Value}
use Rattle.lq_volume_entries.specs.Attributes.{Attributes, HasOwnNames, value_of, with_attr, without_attr}
use Rattle.lq_volume_entries.proofs.OrderLemmas.{all_map, map_all}

-- names that differ do so either way round
turned : (x y : List ℕ) → bytes_eq x y ≡ false → bytes_eq y x ≡ false
turned x y h =
    let a = bytes_eq-Decides x y in
    let b = bytes_eq-Decides y x in
    grind (arith, nat_tests)

-- a name that no attribute before it has goes last
with_attr-next : (es fs : Attributes) (e : List ℕ × Value) → HasOwnNames (es ++ e ∷ fs) →
    with_attr es e.0 e.1 ≡ es ++ e ∷ []
with_attr-next [] fs e h = refl
with_attr-next (f ∷ es) fs e h =
    let off = turned f.0 e.0 (apart es h.0) in
    let rest = with_attr-next es fs e h.1 in
    grind (arith, nat_tests)
  where
    apart : (gs : Attributes) → AllByRecursion (λ b. bytes_eq f.0 b.0 ≡ false) (gs ++ e ∷ fs) →
        bytes_eq f.0 e.0 ≡ false
    apart [] k = k.0
    apart (g ∷ gs) k = apart gs k.1

-- a name that none has goes last
pub with_attr-new : (es : Attributes) (attr : List ℕ) (value : Value) → value_of es attr ≡ None →
    with_attr es attr value ≡ es ++ (attr, value) ∷ []
with_attr-new [] attr value h = refl
with_attr-new (e ∷ es) attr value h = grind (arith, nat_tests, with_attr-new es attr value)

-- the others of a name that none has are all
pub without_attr-none : (es : Attributes) (attr : List ℕ) → value_of es attr ≡ None →
    without_attr es attr ≡ es
without_attr-none [] attr h = refl
without_attr-none (e ∷ es) attr h = grind (arith, nat_tests, without_attr-none es attr)

-- a name that all differ from is not at a place
apart-at : (es : Attributes) (i : ℕ) (name attr : List ℕ) →
    AllByRecursion (λ b. bytes_eq name b.0 ≡ false) es →
    option_map (λ a. a.0) (slice_get es i) ≡ Some attr → bytes_eq name attr ≡ false
apart-at [] i name attr h at = cc
apart-at (e ∷ es) zero name attr h at = let off = h.0 in grind (arith, nat_tests)
apart-at (e ∷ es) (suc i) name attr h at = apart-at es i name attr h.1 at

-- a setting is a write at the name's place
pub with_attr-at : (es : Attributes) (i : ℕ) (attr : List ℕ) (value : Value) → HasOwnNames es →
    option_map (λ a. a.0) (slice_get es i) ≡ Some attr →
    slice_set es i (attr, value) ≡ with_attr es attr value
with_attr-at [] i attr value h at = cc
with_attr-at (e ∷ es) zero attr value h at =
    let same = bytes_eq-Decides attr e.0 in
    grind (arith, nat_tests)
with_attr-at (e ∷ es) (suc i) attr value h at =
    let off = turned e.0 attr (apart-at es i e.0 attr h.0 at) in
    let rest = with_attr-at es i attr value h.1 at in
    grind (arith, nat_tests)

-- a removal is one at the name's place
pub without_attr-at : (es : Attributes) (i : ℕ) (attr : List ℕ) → HasOwnNames es →
    option_map (λ a. a.0) (slice_get es i) ≡ Some attr → remove es i ≡ without_attr es attr
without_attr-at [] i attr h at = cc
without_attr-at (e ∷ es) zero attr h at =
    let is : e.0 ≡ attr = grind (arith, nat_tests) in
    let same = bytes_eq-Decides attr e.0 in
    let others : without_attr es attr ≡ es =
    rw (← is) (without_attr-none es e.0 (lookup-none (bytes_eq e.0) es h.0)) in
    grind (arith, nat_tests)
without_attr-at (e ∷ es) (suc i) attr h at =
    let off = turned e.0 attr (apart-at es i e.0 attr h.0 at) in
    let rest = without_attr-at es i attr h.1 at in
    grind (arith, nat_tests)

-- the value is at a place, or among those after it
pub value_of-drop : (es : Attributes) (i : ℕ) (name : List ℕ) (x : List ℕ × Value) → i < length es →
    x ≡ slice_index_or es i x →
    value_of (drop i es) name
    ≡ cond (bytes_eq name x.0) (Some x.1) (value_of (drop (i + 1) es) name)
value_of-drop es i name x less at = rw (add-one, drop-cons es i x, ← at) refl

-- what is found under a name afterwards
pub value_of-with : (es : Attributes) (attr name : List ℕ) (value : Value)
    → value_of (with_attr es attr value) name
    ≡ cond (bytes_eq name attr) (Some value) (value_of es name)
value_of-with [] attr name value = refl
value_of-with (e ∷ es) attr name value =
    let a = bytes_eq-Decides attr e.0 in
    let b = bytes_eq-Decides name e.0 in
    let c = bytes_eq-Decides name attr in
    grind (arith, nat_tests, value_of-with es attr name value)

-- after a removal the name has no value, and each other name the one that it had
pub value_of-without : (es : Attributes) (attr name : List ℕ)
    → value_of (without_attr es attr) name ≡ cond (bytes_eq name attr) None (value_of es name)
value_of-without [] attr name = grind (arith, nat_tests)
value_of-without (e ∷ es) attr name =
    let a = bytes_eq-Decides attr e.0 in
    let b = bytes_eq-Decides name e.0 in
    let c = bytes_eq-Decides name attr in
    grind (arith, nat_tests, value_of-without es attr name)

-- names of their own are distinct keys
keys-own : (es : Attributes) → HasOwnNames es → IsDistinct bytes_eq (keys_of es)
unfolding IsDistinct
keys-own [] h = tt
keys-own (e ∷ es) h = (map_all (λ a. a.0) (λ n. bytes_eq e.0 n ≡ false) es h.0, keys-own es h.1)

-- the same back
pub HasOwnNames-keys : (es : Attributes) → IsDistinct bytes_eq (keys_of es) → HasOwnNames es
unfolding IsDistinct
HasOwnNames-keys [] h = tt
HasOwnNames-keys (e ∷ es) h =
    (all_map (λ a. a.0) (λ n. bytes_eq e.0 n ≡ false) es h.0, HasOwnNames-keys es h.1)

-- a setting leaves no name twice
pub HasOwnNames-with : (es : Attributes) (attr : List ℕ) (value : Value) → HasOwnNames es
    → HasOwnNames (with_attr es attr value)
HasOwnNames-with es attr value h = HasOwnNames-keys (with_attr es attr value)
    (rw (keys_insert_entry bytes_eq es attr value)
    (go (list_any (bytes_eq attr) (keys_of es)) refl))
  where
    go : (b : Bool) → list_any (bytes_eq attr) (keys_of es) ≡ b
        → IsDistinct bytes_eq (if b then keys_of es else keys_of es ++ attr ∷ [])
    go true is = keys-own es h
    go false is =
        IsDistinct-push (decided bytes_eq bytes_eq-Decides) (keys_of es) attr (keys-own es h) is

-- a removal leaves no name twice
pub HasOwnNames-without : (es : Attributes) (attr : List ℕ) → HasOwnNames es
    → HasOwnNames (without_attr es attr)
HasOwnNames-without es attr h = HasOwnNames-keys (without_attr es attr)
    (IsDistinct-keys_filter bytes_eq (λ a. not (bytes_eq attr a.0)) es (keys-own es h))

-- the first of a name taken out is all of them, where none is left
remove_entry-all : (es : Attributes) (attr : List ℕ)
    → value_of (remove_entry (bytes_eq attr) es) attr ≡ None
    → remove_entry (bytes_eq attr) es ≡ without_attr es attr
remove_entry-all [] attr h = refl
remove_entry-all (e ∷ es) attr h =
    grind (arith, nat_tests, without_attr-none es attr, remove_entry-all es attr)

-- a map's removal, after which the name has no value
pub without_attr-removed : (es fs : Attributes) (attr : List ℕ)
    → fs ≡ remove_entry (bytes_eq attr) es → value_of fs attr ≡ None → fs ≡ without_attr es attr
without_attr-removed es fs attr is none = is ∙ remove_entry-all es attr (rw is at none)

-- a map of a list behind another
insert_all-next : (es fs : Attributes) → HasOwnNames (es ++ fs)
    → insert_all bytes_eq es fs ≡ es ++ fs
insert_all-next es [] h = sym (append-nil es)
insert_all-next es (f ∷ fs) h =
    let one = with_attr-next es fs f h in
    let more = append_assoc es (f ∷ []) fs in
    ap (λ l. insert_all bytes_eq l fs) one
    ∙ (insert_all-next (es ++ f ∷ []) fs (rw more h) ∙ more)

-- a map of a list has its attributes in its order
pub insert_all-own : (es : Attributes) → HasOwnNames es → insert_all bytes_eq [] es ≡ es
insert_all-own es h = insert_all-next [] es h

-- what was taken is all, where nothing is left
pub list-ends : {X : Type 0} (es rest all : List X) → length rest ≡ 0 → es ++ rest ≡ all → es ≡ all
list-ends es [] all h k = sym (append-nil es) ∙ k
list-ends es (x ∷ rest) all h k = absurd (omega arith)
