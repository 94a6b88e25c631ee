-- What is read is what is written: each item of a set, and all of them.
use Rattle.std.proofs.Common.{◌≡◌, ◌<◌, ℕ, List, [], ◌∷◌, ◌++◌, length, refl, ap, ◌∙◌, subst, inl, inr, arith, append_assoc, length-append, le-leb, ne_eqb}
use Rattle.std.proofs.lemmas.Bool.{cases_eq, cases_lt, lt-leb}
use Rattle.std.proofs.lemmas.Bool.Decides.{nat_tests}
use Rattle.std.proofs.lemmas.List.{nil_from_length}
use Rattle.lq_value_pattern.specs.declared.element.Item.{Item}
use Rattle.lq_value_pattern.specs.declared.element.Item.TheVariants.{One, Range}
use Rattle.lq_value_pattern.specs.declared.sign.Sign.{Sign}
use Rattle.lq_value_pattern.specs.declared.sign.Sign.TheVariants.{Bare, Escaped, Dangling}
use Rattle.lq_value_pattern.specs.Source.{First, ends, has, faulty, whole, pieces_of, item_at, behind_char, behind_dash, range_at}
use Rattle.lq_value_pattern.specs.Written.{StandsInSet, BeginsNoRange, IsItem, AreItems}
use Rattle.lq_value_pattern.proofs.PieceLemmas.{Shrinks, pieces_of-step, whole_none, whole_more}

-- ---- an item that is read is written

-- what is read first of a set is what stands first in it
abbrev pub IsFirstItem : List Sign → First Item → Type 0
IsFirstItem ss (ends rest) = ss ≡ Bare 93 ∷ rest
IsFirstItem ss (has i rest) = (part : List Sign) × (ss ≡ part ++ rest) × IsItem i part rest
IsFirstItem ss faulty = Unit {0}

-- two characters with a `-` between them are a range, or bad
range_read : (s t : Sign) (c d : ℕ) (ss : List Sign) → StandsInSet s c → StandsInSet t d
    → IsFirstItem (s ∷ Bare 45 ∷ t ∷ ss) (range_at c d ss)
range_read s t c d ss i j = elim (cases_lt d c) [
  | inl lt ↦ rw (lt-leb c d lt) tt
  | inr le ↦ rw (le-leb c d le) (s ∷ Bare 45 ∷ t ∷ [], refl, (s, t, refl, i, j, le))
]

-- a character of a set, with no range begun after it, is an item alone
one_read : (s : Sign) (c : ℕ) (ss : List Sign) → StandsInSet s c → BeginsNoRange ss
    → IsFirstItem (s ∷ ss) (has (One c) ss)
one_read s c ss i n = (s ∷ [], refl, (s, refl, i, n))

-- a character before `-` is read as it stands: a range, or an item before `-]`
dash_read : (s : Sign) (c : ℕ) (ss : List Sign) → StandsInSet s c
    → IsFirstItem (s ∷ Bare 45 ∷ ss) (behind_dash c (Bare 45 ∷ ss) ss)
dash_read s c [] i = one_read s c (Bare 45 ∷ []) i (λ t behind e. cc)
dash_read s c (Bare d ∷ ss) i = elim (cases_eq d 93) [
  | inl is ↦ rw is (one_read s c (Bare 45 ∷ Bare 93 ∷ ss) i (λ t behind e. cc))
  | inr other ↦ rw (ne_eqb d 93 other) (range_read s (Bare d) c d ss i (refl, ne_eqb d 93 other))
]
dash_read s c (Escaped d ∷ ss) i = range_read s (Escaped d) c d ss i refl
dash_read s c (Dangling ∷ ss) i = tt

-- a character of a set is read as it stands: an item alone, or a range
char_read : (s : Sign) (c : ℕ) (ss : List Sign) → StandsInSet s c
    → IsFirstItem (s ∷ ss) (behind_char c ss)
char_read s c (Bare d ∷ ss) i = elim (cases_eq d 45) [
  | inl is ↦ rw is (dash_read s c ss i)
  | inr other ↦
      let alone : BeginsNoRange (Bare d ∷ ss) = λ t behind e. absurd (other cc) in
      rw (ne_eqb d 45 other) (one_read s c (Bare d ∷ ss) i alone)
]
char_read s c ss i = one_read s c ss i (λ t behind e. cc)

-- the first item is read as it stands
pub item_read : (ss : List Sign) → IsFirstItem ss (item_at ss)
item_read [] = tt
item_read (Bare c ∷ ss) = elim (cases_eq c 93) [
  | inl is ↦ rw is refl
  | inr other ↦ rw (ne_eqb c 93 other) (char_read (Bare c) c ss (refl, ne_eqb c 93 other))
]
item_read (Escaped c ∷ ss) = char_read (Escaped c) c ss refl
item_read (Dangling ∷ ss) = tt

-- an item is written by a sign at least
item_some : (i : Item) (part rest : List Sign) → IsItem i part rest → 0 < length part
item_some (One c) part rest h = rw h.1 (omega arith)
item_some (Range c d) part rest h = rw h.2 (omega arith)

-- each item that is read has a sign at least
pub item_shrinks : Shrinks Item item_at
item_shrinks ss x rest e =
    let h : IsFirstItem ss (has x rest) = rw e at (item_read ss) in
    omega (arith, item_some x h.0 rest h.2, ap length h.1, length-append h.0 rest)

-- ---- the items that are read are written

-- what stands first in all signs stands first in the front of them
item_before : (i : Item) (part inside rest : List Sign) → IsItem i part (inside ++ rest)
    → IsItem i part inside
item_before (One c) part inside rest h =
    (h.0, h.1, h.2, λ s behind e. h.3 s (behind ++ rest) (ap (λ l. l ++ rest) e))
item_before (Range c d) part inside rest h = h

-- signs that write items up to a `]`
abbrev pub ItemsFront : List Sign → List Item → List Sign → Type 0
ItemsFront ss is rest = (inside : List Sign) × (ss ≡ inside ++ rest) × AreItems is inside

-- items that were read to their end are written there
pub items_read : (is : List Item) (ss rest : List Sign) → pieces_of item_at ss ≡ whole is rest
    → ItemsFront ss is rest
items_read [] ss rest e =
    let h : IsFirstItem ss (ends rest) =
    rw (whole_none Item item_at item_shrinks ss rest e) at (item_read ss) in
    (Bare 93 ∷ [], h, refl)
items_read (i ∷ is) ss rest e =
    let m = whole_more Item item_at item_shrinks ss i is rest e in
    let h : IsFirstItem ss (has i m.0) = rw m.1 at (item_read ss) in
    let f = items_read is m.0 rest m.2 in (
      h.0 ++ f.0,
      cc (h.1, f.1, append_assoc h.0 f.0 rest),
      (h.0, f.0, refl, item_before i h.0 f.0 rest (subst (IsItem i h.0) f.1 h.2), f.2),
    )

-- ---- items that are written are read

-- no signs write items
pub no_items : (is : List Item) → AreItems is [] → ⊥
no_items [] h = cc
no_items (i ∷ is) h =
    omega (arith, item_some i h.0 h.1 h.3, ap length h.2, length-append h.0 h.1)

-- the last sign of a set's items is the `]`
last_sign : (is : List Item) (s : Sign) → AreItems is (s ∷ []) → s ≡ Bare 93
last_sign [] s h = cc
last_sign (i ∷ is) s h =
    let none : h.1 ≡ [] = nil_from_length h.1
    (omega (arith, item_some i h.0 h.1 h.3, ap length h.2, length-append h.0 h.1)) in
    absurd (no_items is (subst (AreItems is) none h.4))

-- a sign of a set is read as its character and what follows it
char_at : (s : Sign) (c : ℕ) (ss : List Sign) → StandsInSet s c
    → item_at (s ∷ ss) ≡ behind_char c ss
char_at s c ss i = grind arith

-- a sign after `-` ends a range
range_end : (c : ℕ) (here : List Sign) (t : Sign) (d : ℕ) (ss : List Sign) → StandsInSet t d
    → behind_dash c here (t ∷ ss) ≡ range_at c d ss
range_end c here t d ss i = grind arith

-- a character before what begins no range is an item alone
no_range : (c : ℕ) (x y : Sign) (more : List Sign) → (x ≡ Bare 45 → y ≡ Bare 93)
    → behind_char c (x ∷ y ∷ more) ≡ has (One c) (x ∷ y ∷ more)
no_range c x y more n = grind (arith, nat_tests)

-- a character is read back where other items follow it
one_written : (c : ℕ) (is : List Item) (rest behind : List Sign) → AreItems is rest
    → BeginsNoRange rest → behind_char c (rest ++ behind) ≡ has (One c) (rest ++ behind)
one_written c is [] behind h n = absurd (no_items is h)
one_written c is (x ∷ []) behind h n = rw (last_sign is x h) refl
one_written c is (x ∷ y ∷ more) behind h n =
    no_range c x y (more ++ behind) (λ e. n y more (ap (λ s. s ∷ y ∷ more) e))

-- an item is read back where others follow it
item_written : (i : Item) (is : List Item) (part rest behind : List Sign) → IsItem i part rest
    → AreItems is rest → item_at (part ++ (rest ++ behind)) ≡ has i (rest ++ behind)
item_written (One c) is part rest behind h k =
    rw h.1 (char_at h.0 c (rest ++ behind) h.2 ∙ one_written c is rest behind k h.3)
item_written (Range c d) is part rest behind h k =
    let here = Bare 45 ∷ h.1 ∷ (rest ++ behind) in
    let range = range_end c here h.1 d (rest ++ behind) h.4 in
    rw h.2 (char_at h.0 c here h.3 ∙ range ∙ rw (le-leb c d h.5) refl)

-- items are read back up to the `]` after them
pub items_written : (is : List Item) (inside rest : List Sign) → AreItems is inside
    → pieces_of item_at (inside ++ rest) ≡ whole is rest
items_written [] inside rest h = rw h (pieces_of-step Item item_at item_shrinks (Bare 93 ∷ rest))
items_written (i ∷ is) inside rest h =
    let first : item_at (inside ++ rest) ≡ has i (h.1 ++ rest) =
    rw (h.2, append_assoc) (item_written i is h.0 h.1 rest h.3 h.4) in
    let step = pieces_of-step Item item_at item_shrinks (inside ++ rest) in
    cc (first, step, items_written is h.1 rest h.4)
