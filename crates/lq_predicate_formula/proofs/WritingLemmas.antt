-- Canonical texts, a piece at a time.
use Rattle.std.proofs.Common.{◌≡◌, ℕ, List, [], ◌∷◌, ◌++◌, append_assoc, refl, sym, ap, ◌∙◌, arith, Bool, true, false, ◌+◌, ◌<◌, length, drop, get_or}
use Rattle.std.proofs.lemmas.Bool.{ne_eqb}
use Rattle.std.proofs.lemmas.List.{at_drop_more, append-nil, map-append}
use Rattle.std.proofs.lemmas.Str.{encode_ascii, encodes-append}
use Rattle.std.proofs.Math.Dec.{lit<}
use Rattle.std.specs.Prelude.{if◌then◌else◌, ◌||◌, ◌==◌, encode_utf8}
use Rattle.std.specs.List.{list_all}
use Rattle.std.specs.Str.{encode_utf8_all}
use Rattle.lq_value.specs.Element.{Element}
use Rattle.lq_value.specs.Element.TheVariants.{Star, Any, Set}
use Rattle.lq_value.specs.Element.TheVariants as element
use Rattle.lq_value.specs.Item.{Item}
use Rattle.lq_value.specs.Item.TheVariants.{One, Range}
use Rattle.lq_value.specs.Pattern.{plain_elements}
use Rattle.lq_value.specs.declared.literal.Literal.{Literal}
use Rattle.lq_value.specs.declared.op.Op.{Op}
use Rattle.lq_predicate_formula.proofs.QuotingLemmas.{AreHigh, first_not, opened}
use Rattle.lq_predicate_formula.specs.Query.{Compare}
use Rattle.lq_predicate_formula.specs.Canonical.{is_bare_byte, quoted, in_marks, attr_then, op_text, literal_text, pattern_text, element_then, plain_then, in_set_then, item_then, items_then, canonical}

-- what follows a text between marks may be added after it
pub in_marks-append : (raw xs rest : List ℕ) → in_marks raw (xs ++ rest) ≡ in_marks raw xs ++ rest
in_marks-append raw xs rest = ap (λ t. 34 ∷ t) (sym (append_assoc raw (34 ∷ xs) rest))

-- what follows either of two texts may be added after it
if-append : (b : Bool) (x y rest : List ℕ) {x' y' : List ℕ} → x' ≡ x ++ rest → y' ≡ y ++ rest
    → (if b then x' else y') ≡ (if b then x else y) ++ rest
if-append true x y rest e f = e
if-append false x y rest e f = f

-- what follows a name may be added after it
pub attr_then-append : (name xs rest : List ℕ)
    → attr_then name (xs ++ rest) ≡ attr_then name xs ++ rest
attr_then-append name xs rest = if-append (list_all is_bare_byte name) _ _ rest
    (sym (append_assoc name xs rest)) (in_marks-append (quoted name) xs rest)

-- two texts are quoted one after the other
pub quoted-append : (xs ys : List ℕ) → quoted (xs ++ ys) ≡ quoted xs ++ quoted ys
quoted-append [] ys = refl
quoted-append (x ∷ xs) ys =
    let h = quoted-append xs ys in
    if-append (x == 92 || x == 34) _ _ (quoted ys) (ap (λ t. 92 ∷ x ∷ t) h) (ap (λ t. x ∷ t) h)

-- ---- patterns

-- what follows a character of a set may be added after it
pub in_set_then-append : (c : ℕ) (xs rest : List ℕ)
    → in_set_then c (xs ++ rest) ≡ in_set_then c xs ++ rest
in_set_then-append c xs rest =
    if-append (c == 93 || c == 91 || c == 92 || c == 94 || c == 45 || c == 34) _ _ rest refl refl

-- what follows an item may be added after it
pub item_then-append : (i : Item) (xs rest : List ℕ)
    → item_then i (xs ++ rest) ≡ item_then i xs ++ rest
item_then-append (One c) xs rest = in_set_then-append c xs rest
item_then-append (Range c d) xs rest =
    ap (λ t. in_set_then c (45 ∷ t)) (in_set_then-append d xs rest)
    ∙ in_set_then-append c (45 ∷ in_set_then d xs) rest

-- what follows a set's items may be added after them
pub items_then-append : (is : List Item) (xs rest : List ℕ)
    → items_then is (xs ++ rest) ≡ items_then is xs ++ rest
items_then-append [] xs rest = refl
items_then-append (i ∷ is) xs rest =
    ap (item_then i) (items_then-append is xs rest) ∙ item_then-append i (items_then is xs) rest

-- what follows an element may be added after it
pub element_then-append : (e : Element) (xs rest : List ℕ)
    → element_then e (xs ++ rest) ≡ element_then e xs ++ rest
element_then-append Star xs rest = refl
element_then-append Any xs rest = refl
element_then-append (element.Plain c) xs rest =
    if-append (c == 42 || c == 63 || c == 91 || c == 92 || c == 34) _ _ rest refl refl
element_then-append (Set true items) xs rest =
    ap (λ t. 91 ∷ 94 ∷ t) (items_then-append items xs rest)
element_then-append (Set false items) xs rest = ap (λ t. 91 ∷ t) (items_then-append items xs rest)

-- two patterns are written one after the other
pub pattern_text-append : (es fs : List Element)
    → pattern_text (es ++ fs) ≡ pattern_text es ++ pattern_text fs
pattern_text-append [] fs = refl
pattern_text-append (e ∷ es) fs = ap (element_then e) (pattern_text-append es fs)
    ∙ element_then-append e (pattern_text es) (pattern_text fs)

-- ---- quoted characters

-- a byte that is no `\` and no `"` is quoted as itself
one_clear : (b : ℕ) (bs : List ℕ) → (b ≡ 92 → ⊥) → (b ≡ 34 → ⊥) → quoted (b ∷ bs) ≡ b ∷ quoted bs
one_clear b bs h k = rw (ne_eqb b 92 h, ne_eqb b 34 k)

-- bytes of 128 or more are quoted as themselves
all_high : (bs : List ℕ) → AreHigh bs → quoted bs ≡ bs
all_high [] h = refl
all_high (b ∷ bs) h =
    rw (one_clear b bs (λ e. omega (arith, h.0, e)) (λ e. omega (arith, h.0, e)), all_high bs h.1)

-- a character that is no `\` and no `"` is quoted as itself
pub quoted_clear : (c : ℕ) → (c ≡ 92 → ⊥) → (c ≡ 34 → ⊥) → quoted (encode_utf8 c) ≡ encode_utf8 c
quoted_clear c h k =
    let o = opened c in
    let clear = one_clear o.first o.tail (first_not 92 c o.first (lit< tt) o.first_is h)
    (first_not 34 c o.first (lit< tt) o.first_is k) in
    rw (o.split, clear, all_high o.tail o.high)

-- `\` is quoted as two of it
pub quoted_backslash : (c : ℕ) → c ≡ 92 → quoted (encode_utf8 c) ≡ 92 ∷ 92 ∷ []
quoted_backslash c is = ap (λ d. quoted (encode_utf8 d)) is ∙ ap quoted (encode_ascii 92 (lit< tt))

-- `"` is quoted with a `\` before it
pub quoted_mark : (c : ℕ) → c ≡ 34 → quoted (encode_utf8 c) ≡ 92 ∷ 34 ∷ []
quoted_mark c is = ap (λ d. quoted (encode_utf8 d)) is ∙ ap quoted (encode_ascii 34 (lit< tt))

-- ---- one step of each loop

-- a pattern is written as its first element and then the others
pub list_step : (e : Element) (es : List Element) → encode_utf8_all (pattern_text (e ∷ es))
    ≡ encode_utf8_all (element_then e []) ++ encode_utf8_all (pattern_text es)
list_step e es = ap encode_utf8_all (element_then-append e [] (pattern_text es))
    ∙ encodes-append (element_then e []) (pattern_text es)

-- the same from an index on
pub list_left : (es : List Element) (i : ℕ) (e : Element) → i < length es → e ≡ get_or es i e
    → encode_utf8_all (pattern_text (drop i es))
    ≡ encode_utf8_all (element_then e []) ++ encode_utf8_all (pattern_text (drop (i + 1) es))
list_left es i e below is =
    at_drop_more (λ l. encode_utf8_all (pattern_text l)) es i e below
    ∙ ap (λ x. encode_utf8_all (pattern_text (x ∷ drop (i + 1) es))) (sym is)
    ∙ list_step e (drop (i + 1) es)

-- a set's items are written as the first and then the others
pub items_step : (i : Item) (is : List Item) → encode_utf8_all (items_then (i ∷ is) [])
    ≡ encode_utf8_all (item_then i []) ++ encode_utf8_all (items_then is [])
items_step i is = ap encode_utf8_all (item_then-append i [] (items_then is []))
    ∙ encodes-append (item_then i []) (items_then is [])

-- the same from an index on
pub items_left : (is : List Item) (i : ℕ) (d : Item) → i < length is
    → encode_utf8_all (items_then (drop i is) [])
    ≡ encode_utf8_all (item_then (get_or is i d) [])
    ++ encode_utf8_all (items_then (drop (i + 1) is) [])
items_left is i d below =
    at_drop_more (λ l. encode_utf8_all (items_then l [])) is i d below
    ∙ items_step (get_or is i d) (drop (i + 1) is)

-- plain characters are written as those before the last and then the last
pub plain_step : (cs : List ℕ) (c : ℕ)
    → encode_utf8_all (pattern_text (plain_elements (cs ++ c ∷ [])))
    ≡ encode_utf8_all (pattern_text (plain_elements cs)) ++ encode_utf8_all (plain_then c [])
plain_step cs c =
    ap (λ es. encode_utf8_all (pattern_text es))
    (map-append (λ d. element.Plain d) cs (c ∷ []))
    ∙ ap encode_utf8_all (pattern_text-append (plain_elements cs) (element.Plain c ∷ []))
    ∙ encodes-append (pattern_text (plain_elements cs)) (plain_then c [])

-- quoted characters are written as those before the last and then the last
pub quoted_char_step : (cs : List ℕ) (c : ℕ) → quoted (encode_utf8_all (cs ++ c ∷ []))
    ≡ quoted (encode_utf8_all cs) ++ quoted (encode_utf8 c)
quoted_char_step cs c = ap quoted
    (encodes-append cs (c ∷ []) ∙ ap (λ t. encode_utf8_all cs ++ t) (append-nil (encode_utf8 c)))
    ∙ quoted-append (encode_utf8_all cs) (encode_utf8 c)

-- what a sink shows, where two pieces are shown as one
module _ {V : Type 0} (after : V → List ℕ → V)
    (joined : (s : V) (x y : List ℕ) → after (after s x) y ≡ after s (x ++ y)) where
  -- one piece more is taken: what was taken and what is left are still the whole
  pub on : (out out' base : V) (piece rest all : List ℕ)
      → all ≡ piece ++ rest → after out all ≡ base → out' ≡ after out piece → after out' rest ≡ base
  on out out' base piece rest all split so_far put =
      ap (λ s. after s rest) put ∙ joined out piece rest ∙ ap (after out) (sym split) ∙ so_far

  -- one piece more is taken of those before it
  pub push_on : (out out' base : V) (before piece all : List ℕ)
      → all ≡ before ++ piece → out ≡ after base before → out' ≡ after out piece
      → out' ≡ after base all
  push_on out out' base before piece all split so_far put =
      put ∙ ap (λ s. after s piece) so_far ∙ joined base before piece ∙ ap (after base) (sym split)

  -- after its six pieces are written, a comparison's canonical text stands there
  pub comparison_put : (base s1 s2 s3 s4 s5 s6 : V) (attr : List ℕ) (op : Op) (literal : Literal)
      → s1 ≡ after base (40 ∷ []) → s2 ≡ after s1 (attr_then attr [])
      → s3 ≡ after s2 (op_text op) → s4 ≡ after s3 (34 ∷ [])
      → s5 ≡ after s4 (literal_text literal) → s6 ≡ after s5 (34 ∷ 41 ∷ [])
      → s6 ≡ after base (canonical (Compare attr op literal))
  comparison_put base s1 s2 s3 s4 s5 s6 attr op literal e1 e2 e3 e4 e5 e6 =
      let last = literal_text literal ++ 34 ∷ 41 ∷ [] in
      let behind = op_text op ++ 34 ∷ last in
      let text = attr_then attr [] ++ behind in
      e6 ∙ on s4 s5 _ (literal_text literal) (34 ∷ 41 ∷ []) last refl
      (on s3 s4 _ (34 ∷ []) last (34 ∷ last) refl
      (on s2 s3 _ (op_text op) (34 ∷ last) behind refl
      (on s1 s2 _ (attr_then attr []) behind text refl
      (on base s1 _ (40 ∷ []) text (40 ∷ text) refl refl e1) e2) e3) e4) e5
      ∙ ap (λ t. after base (40 ∷ t)) (sym (attr_then-append attr [] behind))
