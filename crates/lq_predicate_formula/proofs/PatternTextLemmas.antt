-- The canonical text of a pattern writes the pattern, and ends at its mark.
use Rattle.std.proofs.Common.{◌≡◌, ℕ, Bool, true, false, cond, List, [], ◌∷◌, ◌++◌, refl, sym, ap, ◌∙◌, subst, arith}
use Rattle.std.specs.Prelude.{◌==◌, ◌||◌, if◌then◌else◌}
use Rattle.std.specs.Char.{IsScalar}
use Rattle.std.specs.Str.{encode_utf8_all}
use Rattle.std.proofs.Math.Utf8.{scalar, scalars, low_scalar}
use Rattle.std.proofs.lemmas.Bool.{and_from, eqb-false, or_parts}
use Rattle.std.proofs.lemmas.Str.{chars-encodes}
use Rattle.lq_value.specs.Item.{Item}
use Rattle.lq_value.specs.Item.TheVariants.{One, Range}
use Rattle.lq_value.specs.Element.{Element}
use Rattle.lq_value.specs.Element.TheVariants.{Star, Any, Plain, Set}
use Rattle.lq_value.specs.Sign.{signs, signs_of}
use Rattle.lq_value.specs.Written.{AreItems, BeginsNoRange, IsElement, StandsFor, StandsInSet, Writes}
use Rattle.lq_predicate_formula.specs.Canonical.{element_then, in_set_then, items_then, pattern_text, plain_then}
use Rattle.lq_predicate_formula.specs.Limits.{AreGoodItems, IsGoodElement, IsGoodPattern}
use Rattle.lq_predicate_formula.proofs.QuotingLemmas.{Ends, ends_clear, ends_escaped}

-- ---- signs, which are known by the texts that they are read from

-- the type of a list's members
abbrev pub element_type : {A : Type 0} → List A → Type 0
element_type {A = A} xs = A

-- a sign of a source
abbrev pub Sign : Type 0
Sign = element_type (signs_of [])

-- the first of a list that is not empty
abbrev pub first : {A : Type 0} (xs : List A) → (xs ≡ [] → ⊥) → A
first [] h = absurd (h refl)
first (x ∷ xs) h = x

-- the second of two choices
abbrev pub second_of : {A : Type 0} (b : Bool) (x y all : A) → all ≡ cond b x y → A
second_of b x y all e = y

-- a list of one is not empty
pub one_not_none : {A : Type 0} (x : A) → x ∷ [] ≡ [] → ⊥
one_not_none x e = cc

-- the sign of a character after `\`
abbrev pub escaped : ℕ → Sign
escaped c = first (signs true (c ∷ [])) (one_not_none _)

-- a character that is no `\`, where nothing is behind it
abbrev pub alone : ℕ → List Sign
alone c = second_of (c == 92) _ _ (signs false (c ∷ [])) refl

-- the sign of a character that stands alone
abbrev pub bare : ℕ → Sign
bare c = first (alone c) (one_not_none _)

-- ---- one character

-- the characters are those of a text, and are read and
-- quoted from here on as well as behind one more
record IsText (cs : List ℕ) : Type 0 where
  pub scalar : scalars cs ≡ true
  pub ends : Ends (encode_utf8_all cs)

-- a character that is no `\` and no `"` may stand before such a text
text_clear : (c : ℕ) (cs : List ℕ) → IsScalar c → (c == 92) ≡ false → (c == 34) ≡ false → IsText cs
    → IsText (c ∷ cs)
text_clear c cs h e f t = record {
  scalar = and_from (scalar c) (scalars cs) h t.scalar;
  ends = ends_clear c cs (eqb-false c 92 e) (eqb-false c 34 f) t.ends;
}

-- `\` and any character may stand before such a text
text_escaped : (c : ℕ) (cs : List ℕ) → IsScalar c → IsText cs → IsText (92 ∷ c ∷ cs)
text_escaped c cs h t = record {
  scalar = and_from (scalar 92) (scalars (c ∷ cs)) (low_scalar 92 (omega arith))
      (and_from (scalar c) (scalars cs) h t.scalar);
  ends = ends_escaped c cs t.ends;
}

-- equal bare signs are of equal characters
bare_not : (c d : ℕ) → (c == d) ≡ false → bare c ≡ bare d → ⊥
bare_not c d e same = eqb-false c d e (cc)

-- a text that is one sign, of which Q holds, and then others
record OneSign (Q : Sign → Type 0) (all cs : List ℕ) : Type 0 where
  pub s : Sign
  pub is : signs false all ≡ s ∷ signs false cs
  pub holds : Q s
  pub text : IsText cs → IsText all

-- a character, escaped or not as a test says, is one sign
one_by : (Q : Sign → Type 0) (c : ℕ) (cs : List ℕ) → IsScalar c → (t : Bool) → Q (escaped c)
    → (t ≡ false → ((c == 92) ≡ false) × ((c == 34) ≡ false) × Q (bare c))
    → OneSign Q (if t then 92 ∷ c ∷ cs else c ∷ cs) cs
one_by Q c cs h true e f =
    record { s = escaped c; is = refl; holds = e; text = text_escaped c cs h }
one_by Q c cs h false e f =
    let k = f refl in
    record { s = bare c; is = rw k.0; holds = k.2; text = text_clear c cs h k.0 k.1 }

-- the text of a plain character is one sign that stands for it
plain_sign : (c : ℕ) (cs : List ℕ) → IsScalar c → OneSign (λ s. StandsFor s c) (plain_then c cs) cs
plain_sign c cs h = one_by (λ s. StandsFor s c) c cs h
    (c == 42 || c == 63 || c == 91 || c == 92 || c == 34) refl (λ e.
    let a = or_parts (c == 42 || c == 63 || c == 91 || c == 92) (c == 34) e in
    let b = or_parts (c == 42 || c == 63 || c == 91) (c == 92) a.0 in
    (b.1, a.1, (refl, b.0)))

-- ---- in sets

-- the sign stands for this character in a set, and is neither `-` nor `^` alone
abbrev InSet : ℕ → Sign → Type 0
InSet c s = StandsInSet s c × (s ≡ bare 45 → ⊥) × (s ≡ bare 94 → ⊥)

-- the text of a character of a set is one sign that stands for it
set_sign : (c : ℕ) (cs : List ℕ) → IsScalar c → OneSign (InSet c) (in_set_then c cs) cs
set_sign c cs h = one_by (InSet c) c cs h
    (c == 93 || c == 91 || c == 92 || c == 94 || c == 45 || c == 34)
    (refl, (λ x. cc), λ x. cc) (λ e.
    let a = or_parts (c == 93 || c == 91 || c == 92 || c == 94 || c == 45) (c == 34) e in
    let b = or_parts (c == 93 || c == 91 || c == 92 || c == 94) (c == 45) a.0 in
    let d = or_parts (c == 93 || c == 91 || c == 92) (c == 94) b.0 in
    let f = or_parts (c == 93 || c == 91) (c == 92) d.0 in
    let g = or_parts (c == 93) (c == 91) f.0 in
    (f.1, a.1, ((refl, g.0), bare_not c 45 b.1, bare_not c 94 d.1)))

-- signs that don't begin with this bare character
abbrev NotFirst : ℕ → List Sign → Type 0
NotFirst d all = (behind : List Sign) → all ≡ bare d ∷ behind → ⊥

-- signs that begin with another
not_first : (d : ℕ) (s : Sign) (ss : List Sign) → (s ≡ bare d → ⊥) → NotFirst d (s ∷ ss)
not_first d s ss h behind e = h (cc)

-- the items up to their `]`
record ItemSigns (items : List Item) (all cs : List ℕ) : Type 0 where
  pub inside : List Sign
  pub is : signs false all ≡ inside ++ signs false cs
  pub are : AreItems items inside
  pub no_dash : NotFirst 45 inside
  pub no_caret : NotFirst 94 inside
  pub text : IsText cs → IsText all

-- the text of a set's items is signs that write those items
items_signs : (items : List Item) (cs : List ℕ) → AreGoodItems items
    → ItemSigns items (items_then items cs) cs
items_signs [] cs h = record {
  inside = bare 93 ∷ [];
  is = refl;
  are = refl;
  no_dash = not_first 45 (bare 93) [] (bare_not 93 45 refl);
  no_caret = not_first 94 (bare 93) [] (bare_not 93 94 refl);
  text = text_clear 93 cs (low_scalar 93 (omega arith)) refl refl;
}
items_signs (One c ∷ is) cs h =
    let more = items_signs is cs h.1 in
    let this = set_sign c (items_then is cs) h.0 in
    let alone : BeginsNoRange more.inside =
    λ s behind e. absurd (more.no_dash (s ∷ behind) e) in
    record {
      inside = this.s ∷ more.inside;
      is = this.is ∙ ap (λ l. this.s ∷ l) more.is;
      are = (
        this.s ∷ [],
        more.inside,
        refl,
        (this.s, refl, this.holds.0, alone),
        more.are,
      );
      no_dash = not_first 45 this.s more.inside this.holds.1;
      no_caret = not_first 94 this.s more.inside this.holds.2;
      text = λ t. this.text (more.text t);
    }
items_signs (Range c d ∷ is) cs h =
    let more = items_signs is cs h.1 in
    let last = set_sign d (items_then is cs) h.0.1 in
    let this = set_sign c (45 ∷ in_set_then d (items_then is cs)) h.0.0 in
    let others = bare 45 ∷ last.s ∷ more.inside in
    record {
      inside = this.s ∷ others;
      is = this.is ∙ ap (λ l. this.s ∷ bare 45 ∷ l) (last.is ∙ ap (λ l. last.s ∷ l) more.is);
      are = (
        this.s ∷ bare 45 ∷ last.s ∷ [],
        more.inside,
        refl,
        (this.s, last.s, refl, this.holds.0, last.holds.0, h.0.2),
        more.are,
      );
      no_dash = not_first 45 this.s others this.holds.1;
      no_caret = not_first 94 this.s others this.holds.2;
      text = λ t. this.text (text_clear 45 (in_set_then d (items_then is cs))
          (low_scalar 45 (omega arith)) refl refl (last.text (more.text t)));
    }

-- ---- elements

-- a text whose first signs write this element
record ElementSigns (e : Element) (all cs : List ℕ) : Type 0 where
  pub part : List Sign
  pub is : signs false all ≡ part ++ signs false cs
  pub writes : IsElement e part
  pub text : IsText cs → IsText all

-- the text of an element is signs that write that element
element_signs : (e : Element) (cs : List ℕ) → IsGoodElement e
    → ElementSigns e (element_then e cs) cs
element_signs Star cs h = record {
  part = bare 42 ∷ [];
  is = refl;
  writes = refl;
  text = text_clear 42 cs (low_scalar 42 (omega arith)) refl refl;
}
element_signs Any cs h = record {
  part = bare 63 ∷ [];
  is = refl;
  writes = refl;
  text = text_clear 63 cs (low_scalar 63 (omega arith)) refl refl;
}
element_signs (Plain c) cs h =
    let this = plain_sign c cs h in
    record {
      part = this.s ∷ [];
      is = this.is;
      writes = (this.s, refl, this.holds);
      text = this.text;
    }
element_signs (Set true items) cs h =
    let more = items_signs items cs h.1 in
    record {
      part = bare 91 ∷ bare 94 ∷ more.inside;
      is = ap (λ l. bare 91 ∷ bare 94 ∷ l) more.is;
      writes = (more.inside, refl, (more.are, h.0));
      text = λ t. text_clear 91 (94 ∷ items_then items cs) (low_scalar 91 (omega arith)) refl refl
          (text_clear 94 (items_then items cs) (low_scalar 94 (omega arith)) refl refl
          (more.text t));
    }
element_signs (Set false items) cs h =
    let more = items_signs items cs h.1 in
    record {
      part = bare 91 ∷ more.inside;
      is = ap (λ l. bare 91 ∷ l) more.is;
      writes = (more.inside, refl, (more.are, h.0), more.no_caret);
      text = λ t.
          text_clear 91 (items_then items cs) (low_scalar 91 (omega arith)) refl refl (more.text t);
    }

-- the text of a good pattern is of scalar values and ends at its mark, and its signs write it
pattern_signs : (es : List Element) → IsGoodPattern es
    → IsText (pattern_text es) × Writes (signs false (pattern_text es)) es
pattern_signs [] h = (record { scalar = refl; ends = ([], refl, tt) }, refl)
pattern_signs (e ∷ es) h =
    let cs = pattern_text es in
    let this = element_signs e cs h.0 in
    let more = pattern_signs es h.1 in
    (this.text more.0, (this.part, signs false cs, this.is, this.writes, more.1))

-- the text of a pattern ends at its mark
pub pattern_ends : (es : List Element) → IsGoodPattern es → Ends (encode_utf8_all (pattern_text es))
pattern_ends es h = (pattern_signs es h).0.ends

-- the text of a pattern writes it
pub pattern_written : (es : List Element) → IsGoodPattern es
    → Writes (signs_of (encode_utf8_all (pattern_text es))) es
pattern_written es h =
    let k = pattern_signs es h in
    subst (λ cs. Writes (signs false cs) es) (sym (chars-encodes (pattern_text es) k.0.scalar)) k.1
