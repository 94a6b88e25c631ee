-- What is read is what is written: each element.
use Rattle.std.proofs.Common.{◌≡◌, ℕ, List, [], ◌∷◌, ◌++◌, Bool, true, false, refl, ap, inl, inr, arith, ne_eqb}
use Rattle.std.proofs.lemmas.Bool.{cases_eq}
use Rattle.lq_value_pattern.specs.declared.element.Item.{Item}
use Rattle.lq_value_pattern.specs.declared.element.Element.{Element}
use Rattle.lq_value_pattern.specs.declared.element.Element.TheVariants.{Star, Any, Plain, Set}
use Rattle.lq_value_pattern.specs.declared.sign.Sign.{Sign}
use Rattle.lq_value_pattern.specs.declared.sign.Sign.TheVariants.{Bare, Escaped, Dangling}
use Rattle.lq_value_pattern.specs.Source.{First, ends, has, faulty, Pieces, whole, pieces_of, item_at, set_with, set_at, element_at}
use Rattle.lq_value_pattern.specs.Written.{StandsFor, AreSome, IsElement}
use Rattle.lq_value_pattern.proofs.WrittenLemmas.{items_read, no_items, items_written}

-- what follows `[` and is no `^` begins a set that is not negated
not_negated : (ss : List Sign) → ((behind : List Sign) → ss ≡ Bare 94 ∷ behind → ⊥)
    → set_at ss ≡ set_with false (pieces_of item_at ss)
not_negated (Bare c ∷ ss) n =
    rw (ne_eqb c 94 (λ is. n ss (ap (λ d. Bare d ∷ ss) is))) refl
not_negated ss n = refl

-- ---- an element that is written is read

-- a set with an item is an element
set_some : (n : Bool) (items : List Item) (rest : List Sign) → (items ≡ [] → ⊥)
    → set_with n (whole items rest) ≡ has (Set n items) rest
set_some n [] rest h = absurd (h refl)
set_some n (i ∷ is) rest h = refl

-- a set that is not negated is read back
set_plain : (items : List Item) (inside rest : List Sign)
    → AreSome items inside → ((behind : List Sign) → inside ≡ Bare 94 ∷ behind → ⊥)
    → set_at (inside ++ rest) ≡ has (Set false items) rest
set_plain items [] rest h n = absurd (no_items items h.0)
set_plain items (x ∷ xs) rest h n =
    let set = not_negated (x ∷ (xs ++ rest)) (λ behind e. n xs cc) in
    cc (set, items_written items (x ∷ xs) rest h.0, set_some false items rest h.1)

-- a plain character is read back
plain_written : (s : Sign) (c : ℕ) (rest : List Sign) → StandsFor s c
    → element_at (s ∷ rest) ≡ has (Plain c) rest
plain_written s c rest h = grind arith

-- an element is read back
pub element_written : (e : Element) (part rest : List Sign) → IsElement e part
    → element_at (part ++ rest) ≡ has e rest
element_written Star part rest h = rw h refl
element_written Any part rest h = rw h refl
element_written (Plain c) part rest h = rw h.1 (plain_written h.0 c rest h.2)
element_written (Set true items) part rest h =
    rw (h.1, items_written items h.0 rest h.2.0) (set_some true items rest h.2.1)
element_written (Set false items) part rest h = rw h.1 (set_plain items h.0 rest h.2 h.3)

-- ---- an element that is read is written

-- what is read first of a source is what stands first in it
abbrev pub IsFirstElement : List Sign → First Element → Type 0
IsFirstElement ss (ends rest) = ss ≡ []
IsFirstElement ss (has e rest) = (part : List Sign) × (ss ≡ part ++ rest) × IsElement e part
IsFirstElement ss faulty = Unit {0}

-- a negated set is read as it stands
negated_read : (ss : List Sign) (p : Pieces Item) → pieces_of item_at ss ≡ p
    → IsFirstElement (Bare 91 ∷ Bare 94 ∷ ss) (set_with true p)
negated_read ss (whole (i ∷ is) rest) e =
    let f = items_read (i ∷ is) ss rest e in
    (Bare 91 ∷ Bare 94 ∷ f.0, cc (f.1), (f.0, refl, (f.2, λ h. cc)))
negated_read ss p e = tt

-- a set that is not negated is read as it stands
set_read : (ss : List Sign) (p : Pieces Item)
    → pieces_of item_at ss ≡ p → ((behind : List Sign) → ss ≡ Bare 94 ∷ behind → ⊥)
    → IsFirstElement (Bare 91 ∷ ss) (set_with false p)
set_read ss (whole (i ∷ is) rest) e n =
    let f = items_read (i ∷ is) ss rest e in (
      Bare 91 ∷ f.0,
      cc (f.1),
      (f.0, refl, (f.2, λ h. cc), λ behind h. n (behind ++ rest) (rw h at f.1)),
    )
set_read ss p e n = tt

-- what follows `[` is read as it stands
bracket_read : (ss : List Sign) → IsFirstElement (Bare 91 ∷ ss) (set_at ss)
bracket_read (Bare c ∷ ss) = elim (cases_eq c 94) [
  | inl is ↦ rw is (negated_read ss (pieces_of item_at ss) refl)
  | inr other ↦
      let plain = set_read (Bare c ∷ ss) (pieces_of item_at (Bare c ∷ ss)) refl in
      rw (ne_eqb c 94 other) (plain (λ behind h. other cc))
]
bracket_read ss = set_read ss (pieces_of item_at ss) refl (λ behind h. cc)

-- the first element is read as it stands
pub element_read : (ss : List Sign) → IsFirstElement ss (element_at ss)
element_read [] = refl
element_read (Bare d ∷ ss) = elim (cases_eq d 42) [
  | inl is ↦ rw is (Bare 42 ∷ [], refl, refl)
  | inr a ↦ elim (cases_eq d 63) [
    | inl is ↦ rw is (Bare 63 ∷ [], refl, refl)
    | inr b ↦ elim (cases_eq d 91) [
      | inl is ↦ rw is (bracket_read ss)
      | inr c ↦
          let star = ne_eqb d 42 a in
          let any = ne_eqb d 63 b in
          let set = ne_eqb d 91 c in
          rw (star, any, set) (Bare d ∷ [], refl, (Bare d, refl, (refl, rw (star, any, set) refl)))
    ]
  ]
]
element_read (Escaped d ∷ ss) = (Escaped d ∷ [], refl, (Escaped d, refl, refl))
element_read (Dangling ∷ ss) = tt
