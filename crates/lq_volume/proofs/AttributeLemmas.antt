-- Attributes one by one: when no test refuses them, and a record that gets them.
use Rattle.std.proofs.Common.{◌≡◌, ℕ, List, [], ◌∷◌, ◌++◌, append_assoc, refl, arith, ap, ◌∙◌, false}
use Rattle.std.specs.Prelude.{None}
use Rattle.std.specs.List.{AllByRecursion}
use Rattle.std.specs.Str.{bytes_eq}
use Rattle.std.proofs.lemmas.Bool.Decides.{nat_tests}
use Rattle.std.proofs.lemmas.List.{append-nil}
use Rattle.std.proofs.lemmas.Slice.Eq.{bytes_eq-Decides}
use Rattle.lq_value.specs.declared.value.Value.{Value}
use Rattle.lq_volume_entries.specs.Attributes.{Attributes, HasOwnNames, is_reserved, value_of, with_attr}
use Rattle.lq_volume.specs.State.{Record}
use Rattle.lq_volume.specs.Change.{set_attr, with_attrs}
use Rattle.lq_volume.specs.Restore.{first_fault, attr_faults}
use Rattle.lq_volume.proofs.FaultLemmas.{none_faults}

-- names that differ do so either way round
turned : (x y : List ℕ) → bytes_eq x y ≡ false → bytes_eq y x ≡ false
turned x y h =
    let a = bytes_eq-Decides x y in
    let b = bytes_eq-Decides y x in
    grind (arith, nat_tests)

-- no attribute of a list has the name of one after it
absent-before : (es fs : Attributes) (a : List ℕ × Value) → HasOwnNames (es ++ a ∷ fs)
    → value_of es a.0 ≡ None
absent-before [] fs a h = refl
absent-before (e ∷ es) fs a h =
    let off = turned e.0 a.0 (apart es h.0) in
    let rest = absent-before es fs a h.1 in
    grind (arith, nat_tests)
  where
    apart : (gs : Attributes) → AllByRecursion (λ b. bytes_eq e.0 b.0 ≡ false) (gs ++ a ∷ fs)
        → bytes_eq e.0 a.0 ≡ false
    apart [] k = k.0
    apart (g ∷ gs) k = apart gs k.1

-- one more name that no attribute has
own-pushed : (es : Attributes) (a : List ℕ × Value) → HasOwnNames es → value_of es a.0 ≡ None
    → HasOwnNames (es ++ a ∷ [])
own-pushed [] a h none = (tt, tt)
own-pushed (e ∷ es) a h none = (more es h.0, own-pushed es a h.1 (grind (arith, nat_tests)))
  where
    here : bytes_eq e.0 a.0 ≡ false
    here = turned a.0 e.0 (grind (arith, nat_tests))

    more : (gs : Attributes) → AllByRecursion (λ b. bytes_eq e.0 b.0 ≡ false) gs
        → AllByRecursion (λ b. bytes_eq e.0 b.0 ≡ false) (gs ++ a ∷ [])
    more [] k = (here, tt)
    more (g ∷ gs) k = (k.0, more gs k.1)

-- attributes that the tests pass have names of their own
pub attrs-own : (es fs : Attributes) → first_fault (attr_faults es fs) ≡ None → HasOwnNames es
    → HasOwnNames (es ++ fs)
attrs-own es [] h own = rw (append-nil es) own
attrs-own es (f ∷ fs) h own =
    let rows = none_faults (attr_faults es (f ∷ fs)) h in
    let none : value_of es f.0 ≡ None = let r = rows.1.0 in grind (arith, nat_tests) in
    rw (← append_assoc es (f ∷ []) fs)
    (attrs-own (es ++ f ∷ []) fs (grind (arith, nat_tests)) (own-pushed es f own none))

-- and plain ones
pub attrs-plain : (es fs : Attributes) → first_fault (attr_faults es fs) ≡ None
    → AllByRecursion (λ a. is_reserved a.0 ≡ false) fs
attrs-plain es [] h = tt
attrs-plain es (f ∷ fs) h =
    let rows = none_faults (attr_faults es (f ∷ fs)) h in
    (rows.0, attrs-plain (es ++ f ∷ []) fs (grind (arith, nat_tests)))

-- the tests pass such attributes
pub attrs-pass : (es fs : Attributes) → HasOwnNames (es ++ fs)
    → AllByRecursion (λ a. is_reserved a.0 ≡ false) fs
    → first_fault (attr_faults es fs) ≡ None
attrs-pass es [] own plain = refl
attrs-pass es (f ∷ fs) own plain =
    let none = absent-before es fs f own in
    let off = plain.0 in
    let rest = attrs-pass (es ++ f ∷ []) fs (rw (append_assoc es (f ∷ []) fs) own) plain.1 in
    grind (arith, nat_tests)

-- an attribute that the record doesn't have goes last
with_attr-new : (es : Attributes) (attr : List ℕ) (value : Value) → value_of es attr ≡ None
    → with_attr es attr value ≡ es ++ (attr, value) ∷ []
with_attr-new [] attr value h = refl
with_attr-new (e ∷ es) attr value h = grind (arith, nat_tests, with_attr-new es attr value)

-- a record with one more of the attributes that it is to have
module _ (full r new : Record) (attr : List ℕ) (value : Value) (left : Attributes)
    (shown : ◌≡◌ {A = Record} r (with_attrs r.attrs full))
    (all : r.attrs ++ (attr, value) ∷ left ≡ full.attrs)
    (rows : first_fault (attr_faults r.attrs ((attr, value) ∷ left))
    ≡ first_fault (attr_faults [] full.attrs))
    (made : new ≡ set_attr attr value r) (none : value_of r.attrs attr ≡ None) where
  -- its attributes
  attrs-set : new.attrs ≡ r.attrs ++ (attr, value) ∷ []
  attrs-set = ap (λ (v : Record). v.attrs) made ∙ with_attr-new r.attrs attr value none

  -- the others of its properties
  pub shown-set : ◌≡◌ {A = Record} new (with_attrs new.attrs full)
  shown-set = rw made (ap (λ (v : Record). with_attrs (with_attr r.attrs attr value) v) shown)

  -- it is to have its attributes and those that are left
  pub all-set : new.attrs ++ left ≡ full.attrs
  all-set = rw (attrs-set, append_assoc r.attrs ((attr, value) ∷ []) left) all

  -- which decide
  pub rows-set : is_reserved attr ≡ false → first_fault (attr_faults new.attrs left)
      ≡ first_fault (attr_faults [] full.attrs)
  rows-set plain = rw attrs-set (grind (arith, nat_tests))
