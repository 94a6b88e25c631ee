-- A pattern that is read from a text has a source: it is of
-- characters, its sets have items, no range falls.
use Rattle.std.proofs.Common.{◌≡◌, ℕ, Bool, true, false, List, [], ◌∷◌, subst, refl, Some}
use Rattle.std.specs.Prelude.{◌==◌, Result, Ok, Err}
use Rattle.std.specs.Char.{IsScalar}
use Rattle.std.specs.List.{AllByRecursion}
use Rattle.std.specs.Str.{IsUtf8, chars}
use Rattle.std.proofs.Math.Utf8.{scalar, scalars}
use Rattle.std.proofs.lemmas.Bool.{and_parts, cond_both}
use Rattle.std.proofs.lemmas.Option.{none-some, same_Some}
use Rattle.std.proofs.lemmas.Str.{scalars-chars}
use Rattle.lq_value.specs.Item.{Item}
use Rattle.lq_value.specs.Item.TheVariants.{One, Range}
use Rattle.lq_value.specs.Element.{Element}
use Rattle.lq_value.specs.Element.TheVariants.{Star, Any, Plain, Set}
use Rattle.lq_value.specs.Laws.{SourcesAreRead}
use Rattle.lq_value.specs.Sign.{signs, signs_of}
use Rattle.lq_value.specs.Source.{pattern_of}
use Rattle.lq_value.specs.Written.{AreItems, IsElement, IsItem, StandsFor, StandsInSet, Writes}
use Rattle.lq_value.specs.declared.literal.Literal.{Literal}
use Rattle.lq_value.specs.declared.literal.Literal.TheVariants.{Pattern}
use Rattle.lq_value.specs.declared.literal.Literal.TheVariants as literals
use Rattle.lq_value.specs.declared.op.Op.{Op}
use Rattle.lq_value.specs.declared.op.Op.TheVariants.{Eq, Ne}
use Rattle.lq_predicate_formula.specs.Grammar.{IsFormula}
use Rattle.lq_predicate_formula.specs.Literals.{literal_of, pattern_literal, unescaped}
use Rattle.lq_predicate_formula.specs.Query.{Query}
use Rattle.lq_predicate_formula.specs.Tokens.{Token}
use Rattle.lq_predicate_formula.specs.Limits.{AreGoodItems, IsGoodBehind, IsGoodElement, IsGoodItem, IsGoodLiteral, IsGoodPattern, IsProper}
use Rattle.lq_predicate_formula.specs.Words.{WordsAre}
use Rattle.lq_predicate_formula.proofs.ProperLemmas.{formula_proper_by, read_suits}
use Rattle.lq_predicate_formula.proofs.PartLemmas.{all_parts}
use Rattle.lq_predicate_formula.proofs.PatternTextLemmas.{Sign, bare, escaped}

-- what a sign stands for is a character
record StandsForScalar (s : Sign) : Type 0 where
  pub outside : (c : ℕ) → StandsFor s c → IsScalar c
  pub inside : (c : ℕ) → StandsInSet s c → IsScalar c

-- all signs stand for scalar values
abbrev AllScalar : List Sign → Type 0
AllScalar ss = AllByRecursion StandsForScalar ss

-- a bare sign of a scalar value stands for that value alone
bare_scalar : (d : ℕ) → IsScalar d → StandsForScalar (bare d)
bare_scalar d h =
    record { outside = λ c k. subst IsScalar k.0 h; inside = λ c k. subst IsScalar k.0 h }

-- an escaped sign of a scalar value stands for that value alone
escaped_scalar : (d : ℕ) → IsScalar d → StandsForScalar (escaped d)
escaped_scalar d h =
    record { outside = λ c k. subst IsScalar k h; inside = λ c k. subst IsScalar k h }

-- the signs of a text of scalar values stand for scalar values
signs_scalar : (b : Bool) (cs : List ℕ) → scalars cs ≡ true → AllScalar (signs b cs)
signs_scalar false [] e = tt
signs_scalar true [] e = (record { outside = λ c k. absurd k; inside = λ c k. absurd k }, tt)
signs_scalar false (c ∷ cs) e =
    let h = and_parts (scalar c) (scalars cs) e in
    cond_both (c == 92) (signs true cs) (bare c ∷ signs false cs) AllScalar
    (λ yes. signs_scalar true cs h.1) (λ no. (bare_scalar c h.0, signs_scalar false cs h.1))
signs_scalar true (c ∷ cs) e =
    let h = and_parts (scalar c) (scalars cs) e in
    (escaped_scalar c h.0, signs_scalar false cs h.1)

-- an item that is written by signs of scalar values is of scalar values
item_good : (i : Item) (part rest : List Sign) → IsItem i part rest → AllScalar part → IsGoodItem i
item_good (One c) part rest h k = let l = subst AllScalar h.1 k in l.0.inside c h.2
item_good (Range c d) part rest h k =
    let l = subst AllScalar h.2 k in
    (l.0.inside c h.3, l.1.1.0.inside d h.4, h.5)

-- the same of all items of a set
items_good : (items : List Item) (text : List Sign) → AreItems items text → AllScalar text
    → AreGoodItems items
items_good [] text h k = tt
items_good (i ∷ is) text h k =
    let l = all_parts StandsForScalar h.0 h.1 (subst AllScalar h.2 k) in
    (item_good i h.0 h.1 h.3 l.0, items_good is h.1 h.4 l.1)

-- an element that is written by signs of scalar values is of scalar values
element_good : (e : Element) (part : List Sign) → IsElement e part → AllScalar part
    → IsGoodElement e
element_good Star part h k = tt
element_good Any part h k = tt
element_good (Plain c) part h k = let l = subst AllScalar h.1 k in l.0.outside c h.2
element_good (Set true items) part h k =
    let l = subst AllScalar h.1 k in
    (h.2.1, items_good items h.0 h.2.0 l.1.1)
element_good (Set false items) part h k =
    let l = subst AllScalar h.1 k in
    (h.2.1, items_good items h.0 h.2.0 l.1)

-- a pattern that is written by signs of scalar values is of scalar values
pattern_good : (es : List Element) (text : List Sign) → Writes text es → AllScalar text
    → IsGoodPattern es
pattern_good [] text h k = tt
pattern_good (e ∷ es) text h k =
    let l = all_parts StandsForScalar h.0 h.1 (subst AllScalar h.2 k) in
    (element_good e h.0 h.3 l.0, pattern_good es h.1 h.4 l.1)

-- a pattern that is read has a source
pub read_good : SourcesAreRead
    → (text : List ℕ) (es : List Element) → IsUtf8 text → pattern_of text ≡ Ok es → IsGoodPattern es
read_good law text es u e = pattern_good es (signs_of text) ((law text es).0 e)
    (signs_scalar false (chars text) (scalars-chars text u))

-- ---- literals

-- a pattern that is read from a text of UTF-8 is a good literal
good_pattern : SourcesAreRead
    → (raw : List ℕ) → IsUtf8 raw → (r : Result (List Element) ℕ) (literal : Literal)
    → pattern_of raw ≡ r → pattern_literal r ≡ Some literal → IsGoodLiteral literal
good_pattern law raw u (Ok es) literal is e =
    subst IsGoodLiteral (same_Some (Pattern es) literal e) (read_good law raw es u is)
good_pattern law raw u (Err k) literal is e = absurd (none-some literal e)

-- a literal that is read from a text of UTF-8 is good
literal_good : SourcesAreRead → (o : Op) (raw : List ℕ) (literal : Literal) → IsUtf8 raw
    → literal_of o raw ≡ Some literal → IsGoodLiteral literal
literal_good law Eq raw literal u e = good_pattern law raw u (pattern_of raw) literal refl e
literal_good law Ne raw literal u e = good_pattern law raw u (pattern_of raw) literal refl e
literal_good law o raw literal u e =
    subst IsGoodLiteral (same_Some (literals.Plain (unescaped false raw)) literal e) tt

-- what a formula of texts is read as has a canonical text that is read
pub formula_good : SourcesAreRead
    → (n : ℕ) (ts : List Token) (q : Query) → WordsAre IsUtf8 ts → IsFormula n ts q → IsProper q
formula_good law n ts q w h = formula_proper_by IsUtf8 IsGoodBehind (λ o raw literal u e.
    (read_suits o raw literal e, literal_good law o raw literal u e)) n ts q w h
