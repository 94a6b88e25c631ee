-- The lengths of canonical texts, and the size of a pattern while its source is read.
use Rattle.std.proofs.Common.{◌≡◌, ◌+◌, ◌≤◌, ℕ, List, [], ◌∷◌, ◌++◌, length, ap, ◌∙◌, arith, ◌<◌, ◌-◌, ◌^◌, refl, sym, Bool, true, false, Option, Some, None}
use Rattle.std.proofs.lemmas.List.{length-append}
use Rattle.std.specs.Str.{encode_utf8_all, IsUtf8}
use Rattle.std.specs.Prelude.{Result, Ok, Err, if◌then◌else◌, encode_utf8}
use Rattle.std.proofs.lemmas.Option.{none-some, some_pair_parts}
use Rattle.std.proofs.lemmas.Str.{encode_ascii}
use Rattle.std.proofs.Math.Dec.{lit<}
use Rattle.lq_value.specs.Element.{Element}
use Rattle.lq_value.specs.Item.{Item}
use Rattle.lq_value.specs.declared.literal.Literal.{Literal}
use Rattle.lq_value.specs.declared.op.Op.{Op}
use Rattle.lq_value.specs.Element.TheVariants.{Set}
use Rattle.lq_value.specs.Item.TheVariants.{One, Range}
use Rattle.lq_value.specs.Laws.{AreWalked, SourcesAreWalked}
use Rattle.lq_value.specs.Sign.{SignList, signs_of, signs_len}
use Rattle.lq_value.specs.Source.{First, ends, has, faulty, Pieces, whole, stuck, begin, after_first, elements_or_offset, element_at, item_at, pattern_of, pieces_of, set_with}
use Rattle.lq_predicate_formula.specs.Query.{Compare}
use Rattle.lq_predicate_formula.specs.Canonical.{in_marks, attr_then, op_text, literal_text, pattern_text, element_then, item_then, items_then, canonical}
use Rattle.lq_predicate_formula.specs.Capped.{capped}
use Rattle.lq_predicate_formula.specs.Sizes.{HasSize, pattern_bytes, items_bytes, pattern_sized, items_sized}
use Rattle.lq_predicate_formula.proofs.QuotingLemmas.{opened}
use Rattle.lq_predicate_formula.proofs.WritingLemmas.{attr_then-append, items_step, list_step}

-- a comparison's text has four bytes beside those of its three parts
pub length-comparison : (attr : List ℕ) (op : Op) (literal : Literal)
    → length (canonical (Compare attr op literal))
    ≡ ((length (attr_then attr []) + length (op_text op)) + length (literal_text literal)) + 4
length-comparison attr op literal =
    let behind = op_text op ++ in_marks (literal_text literal) (41 ∷ []) in
    let a =
    ap length (attr_then-append attr [] behind) ∙ length-append (attr_then attr []) behind in
    let b = length-append (op_text op) (in_marks (literal_text literal) (41 ∷ [])) in
    let d = length-append (literal_text literal) (34 ∷ 41 ∷ []) in
    omega (arith, a, b, d)

-- ---- patterns

-- a pattern's text is as long as that of its first element and that of the others
pub element_split : (e : Element) (es : List Element)
    → length (encode_utf8_all (pattern_text (e ∷ es)))
    ≡ length (encode_utf8_all (element_then e [])) + length (encode_utf8_all (pattern_text es))
element_split e es = ap length (list_step e es)
    ∙ length-append (encode_utf8_all (element_then e [])) (encode_utf8_all (pattern_text es))

-- a set's text is as long as that of its first item and that of the others
pub item_split : (i : Item) (is : List Item) → length (encode_utf8_all (items_then (i ∷ is) []))
    ≡ length (encode_utf8_all (item_then i [])) + length (encode_utf8_all (items_then is []))
item_split i is = ap length (items_step i is)
    ∙ length-append (encode_utf8_all (item_then i [])) (encode_utf8_all (items_then is []))

-- the pieces, where it is known what is first
step_by : {A : Type 0} {first : SignList → First A} (w : AreWalked first) (ss : SignList)
    (r : First A) → first ss ≡ r → pieces_of first ss ≡ after_first ss r (pieces_of first)
step_by {first = first} w ss r e = w.step ss ∙ ap (λ x. after_first ss x (pieces_of first)) e

-- ---- the items of a set

-- an item counted now is one counted with the items after it
item_more : (n n' p : ℕ) (i : Item) (r : Pieces Item)
    → p ≡ capped (length (encode_utf8_all (item_then i []))) → n' ≡ capped (n + p)
    → items_sized n' r ≡ items_sized n (begin i r)
item_more n n' p i (whole is rest) e new =
    let split = item_split i is in
    ap (λ k. Some (k, rest)) (omega (arith, e, new, split))
item_more n n' p i (stuck rest) e new = refl

-- while a set's source is read: one item more keeps what the whole will be
pub items_on : SourcesAreWalked → (n n' p : ℕ) (ss rest : SignList) (i : Item)
    (all : Option (ℕ × SignList)) → items_sized n (pieces_of item_at ss) ≡ all
    → item_at ss ≡ has i rest → p ≡ capped (length (encode_utf8_all (item_then i [])))
    → n' ≡ capped (n + p)
    → items_sized n' (pieces_of item_at rest) ≡ all
items_on law n n' p ss rest i all so_far is e new =
    item_more n n' p i (pieces_of item_at rest) e new
    ∙ sym (ap (items_sized n) (step_by law.items ss (has i rest) is)) ∙ so_far

-- an ASCII character has one byte
pub one_byte : (c : ℕ) → c < 128 → length (encode_utf8_all (c ∷ [])) ≡ 1
one_byte c small = ap (λ t. length (t ++ [])) (encode_ascii c small)

-- a set's source that ends here is as large as was counted, and its `]`
pub items_end : SourcesAreWalked → (n n' : ℕ) (ss rest : SignList) (all : Option (ℕ × SignList))
    → items_sized n (pieces_of item_at ss) ≡ all → item_at ss ≡ ends rest → n' ≡ capped (n + 1)
    → all ≡ Some (n', rest)
items_end law n n' ss rest all so_far is new =
    let size : capped (n + items_bytes []) ≡ n' = omega (arith, new, one_byte 93 (lit< tt)) in
    sym so_far ∙ ap (items_sized n) (step_by law.items ss (ends rest) is)
    ∙ ap (λ k. Some (k, rest)) size

-- a set's source that is bad here is bad
pub items_stuck : SourcesAreWalked → (n : ℕ) (ss : SignList) (all : Option (ℕ × SignList))
    → items_sized n (pieces_of item_at ss) ≡ all → item_at ss ≡ faulty → all ≡ None
items_stuck law n ss all so_far is =
    sym so_far ∙ ap (items_sized n) (step_by law.items ss faulty is)

-- ---- a set, which has an item at least

-- a size that was counted over a set's items is that of whole items
items_whole : (r : Pieces Item) (size : ℕ) (rest : SignList) → items_sized 0 r ≡ Some (size, rest)
    → (is : List Item) × (r ≡ whole is rest) × (size ≡ capped (items_bytes is))
items_whole (whole is behind) size rest e =
    let same = some_pair_parts (capped (0 + items_bytes is)) size behind rest e in
    (is, ap (whole is) same.1, omega (arith, same.0))
items_whole (stuck behind) size rest e = absurd (none-some (size, rest) e)

-- a set whose items are not whole is bad
pub set_stuck : (r : Pieces Item) (negated : Bool) → items_sized 0 r ≡ None
    → set_with negated r ≡ faulty
set_stuck (whole is rest) negated e = absurd (none-some _ (sym e))
set_stuck (stuck rest) negated e = refl

-- either text has a byte if it has a character
some_bytes : (b : Bool) (c d : ℕ) (cs ds : List ℕ)
    → 1 ≤ length (encode_utf8_all (if b then c ∷ cs else d ∷ ds))
some_bytes true c d cs ds =
    let split = ap length (opened c).split in
    let both = length-append (encode_utf8 c) (encode_utf8_all cs) in
    omega (arith, split, both)
some_bytes false c d cs ds =
    let split = ap length (opened d).split in
    let both = length-append (encode_utf8 d) (encode_utf8_all ds) in
    omega (arith, split, both)

-- an item has a byte at least
item_some : (i : Item) → 1 ≤ length (encode_utf8_all (item_then i []))
item_some (One c) = some_bytes _ _ _ _ _
item_some (Range c d) = some_bytes _ _ _ _ _

-- and the items of a set have their `]`
items_some : (is : List Item) → 1 ≤ items_bytes is
items_some [] = omega (arith, one_byte 93 (lit< tt))
items_some (i ∷ is) = omega (arith, item_split i is, items_some is)

-- a set's items have one byte just where there is none
only_end : (is : List Item) → 1 < items_bytes is → is ≡ [] → ⊥
only_end [] more e = omega (arith, more, one_byte 93 (lit< tt))
only_end (i ∷ is) more e = cc

-- a set of one byte has no item, and is bad
pub set_empty : (r : Pieces Item) (negated : Bool) (n : ℕ) (rest : SignList)
    → items_sized 0 r ≡ Some (n, rest) → n ≤ 1 → set_with negated r ≡ faulty
set_empty (whole [] rest) negated n behind e h = refl
set_empty (whole (i ∷ is) rest) negated n behind e h =
    let same = (some_pair_parts _ n rest behind e).0 in
    let no : ⊥ = omega (arith, same, h, item_split i is, item_some i, items_some is) in
    absurd no
set_empty (stuck rest) negated n behind e h = refl

-- a set's text is its `[` or `[^`, and that of its items
set_bytes : (negated : Bool) (is : List Item)
    → length (encode_utf8_all (element_then (Set negated is) []))
    ≡ (if negated then 2 else 1) + items_bytes is
set_bytes true is =
    let text = encode_utf8_all (items_then is []) in
    let one = ap (λ t. length (t ++ (encode_utf8 94 ++ text))) (encode_ascii 91 (lit< tt)) in
    let two = ap (λ t. length (t ++ text)) (encode_ascii 94 (lit< tt)) in
    omega (arith, one, two)
set_bytes false is =
    let text = encode_utf8_all (items_then is []) in
    let one = ap (λ t. length (t ++ text)) (encode_ascii 91 (lit< tt)) in
    omega (arith, one)

-- a set with an item is an element
set_of : (negated : Bool) (is : List Item) (rest : SignList) → (is ≡ [] → ⊥)
    → set_with negated (whole is rest) ≡ has (Set negated is) rest
set_of negated [] rest some = absurd (some refl)
set_of negated (i ∷ is) rest some = refl

-- a set that was read whole has the size that was counted, and that of its opening
pub set_sized : (r : Pieces Item) (rest : List ℕ) (negated : Bool) (n m : ℕ) → IsUtf8 rest
    → items_sized 0 r ≡ Some (n, signs_of rest) → 1 < n
    → m ≡ capped (n + (if negated then 2 else 1)) → HasSize (set_with negated r) m rest
set_sized r rest negated n m utf8 e more new =
    let w = items_whole r n (signs_of rest) e in
    record {
      element = Set negated w.0;
      is = ap (set_with negated) w.1
          ∙ set_of negated w.0 (signs_of rest) (only_end w.0 (omega (arith, more, w.2)));
      size_is = omega (arith, new, set_bytes negated w.0, w.2);
      text = utf8;
    }

-- ---- the elements

-- the size of the pattern behind so many bytes, or where its fault is
abbrev pub measured : List ℕ → ℕ → Pieces Element → Result ℕ ℕ
measured text n (whole es rest) = Ok (capped (n + pattern_bytes es))
measured text n (stuck rest) = Err (length text - signs_len rest)

-- nothing counted before leaves a pattern's size as it is
measured_by : (text : List ℕ) (r : Pieces Element)
    → measured text 0 r ≡ pattern_sized (elements_or_offset text r)
measured_by text (whole es rest) = ap Ok (omega arith)
measured_by text (stuck rest) = refl

-- before the first element, what is to be counted is the size of the whole pattern
pub none_measured : (text : List ℕ)
    → measured text 0 (pieces_of element_at (signs_of text)) ≡ pattern_sized (pattern_of text)
none_measured text = measured_by text (pieces_of element_at (signs_of text))

-- an element counted now is one counted with the elements after it
element_more : (text : List ℕ) (n n' p : ℕ) (e : Element) (r : Pieces Element)
    → p ≡ capped (length (encode_utf8_all (element_then e []))) → n' ≡ capped (n + p)
    → measured text n' r ≡ measured text n (begin e r)
element_more text n n' p e (whole es rest) is new =
    let split = element_split e es in
    ap Ok (omega (arith, is, new, split))
element_more text n n' p e (stuck rest) is new = refl

-- while a pattern's source is read: one element more keeps what the whole will be
pub elements_on : SourcesAreWalked → (text : List ℕ) (n n' p : ℕ) (left rest : List ℕ)
    (all : Result ℕ ℕ) → measured text n (pieces_of element_at (signs_of left)) ≡ all
    → HasSize (element_at (signs_of left)) p rest → n' ≡ capped (n + p)
    → measured text n' (pieces_of element_at (signs_of rest)) ≡ all
elements_on law text n n' p left rest all so_far h new =
    element_more text n n' p h.element (pieces_of element_at (signs_of rest)) h.size_is new
    ∙ sym (ap (measured text n)
    (step_by law.elements (signs_of left) (has h.element (signs_of rest)) h.is)) ∙ so_far

-- a pattern's source that ends here is as large as was counted
pub elements_end : SourcesAreWalked → (text : List ℕ) (n : ℕ) (left : List ℕ) (all : Result ℕ ℕ)
    → measured text n (pieces_of element_at (signs_of left)) ≡ all
    → element_at (signs_of left) ≡ ends [] → n ≤ 2 ^ 64 - 1 → Ok n ≡ all
elements_end law text n left all so_far is small =
    ap Ok (let same : n ≡ capped (n + pattern_bytes []) = omega (arith, small) in same)
    ∙ sym (ap (measured text n) (step_by law.elements (signs_of left) (ends []) is)) ∙ so_far

-- a pattern's source that is bad here is bad at this offset
pub elements_stuck : SourcesAreWalked → (text : List ℕ) (n p : ℕ) (left : List ℕ) (all : Result ℕ ℕ)
    → IsUtf8 left → measured text n (pieces_of element_at (signs_of left)) ≡ all
    → element_at (signs_of left) ≡ faulty → p ≡ length text - length left → Err p ≡ all
elements_stuck law text n p left all utf8 so_far is offset =
    ap Err (offset ∙ ap (λ k. length text - k) (sym (law.bytes left utf8)))
    ∙ sym (ap (measured text n) (step_by law.elements (signs_of left) faulty is)) ∙ so_far
