-- Reading a whole source: its bytes, what is known at each
-- step, and that the definition is what is written.
use Rattle.std.proofs.Common.{◌≡◌, ◌<◌, ◌≤◌, ◌+◌, ◌-◌, ℕ, List, [], ◌∷◌, ◌++◌, length, Bool, true, false, Result, Ok, IfOk, unwrap_or, chars, IsUtf8, encode_utf8, encode_utf8_all, refl, ap, inl, inr, arith, append_assoc, length-append, eq-eqb, ne_eqb}
use Rattle.std.specs.Char.{len_utf8}
use Rattle.std.specs.Global.{Vec}
use Rattle.std.proofs.lemmas.Bool.{cases_eq}
use Rattle.std.proofs.lemmas.Str.{encodes-chars, length-encode, len_utf8_ascii}
use Rattle.lq_value_pattern.specs.declared.element.Element.{Element}
use Rattle.lq_value_pattern.specs.declared.error.SourceError.{SourceError}
use Rattle.lq_value_pattern.specs.declared.error.SourceError.TheVariants.{Faulty, NoMemory}
use Rattle.lq_value_pattern.specs.declared.sign.Sign.{Sign}
use Rattle.lq_value_pattern.specs.SourceError.{IsFailedBy}
use Rattle.lq_value_pattern.specs.Sign.{signs, signs_of, signs_len}
use Rattle.lq_value_pattern.specs.Source.{ends, has, faulty, element_at, elements_or_offset, pattern_of, source_error}
use Rattle.lq_value_pattern.specs.Written.{IsElement}
use Rattle.lq_value_pattern.specs.Reading.{IsFound, IsWithElement, AreFound}
use Rattle.lq_value_pattern.proofs.PieceLemmas.{Shrinks, SoFar, so_far_more, so_far_end, so_far_stuck}
use Rattle.lq_value_pattern.proofs.ElementLemmas.{element_read}

-- ---- the bytes of signs

-- a `\` before a sign has one byte
abbrev behind_len : Bool → ℕ
behind_len false = 0
behind_len true = 1

-- a text's bytes are those of its first character and of the others
whole_len : (c : ℕ) (cs : List ℕ)
    → length (encode_utf8 c ++ encode_utf8_all cs) ≡ len_utf8 c + length (encode_utf8_all cs)
whole_len c cs = omega (
  arith,
  length-append (encode_utf8 c) (encode_utf8_all cs),
  length-encode c,
)

-- the signs of a text have as many bytes as the text
signs-len : (b : Bool) (cs : List ℕ)
    → signs_len (signs b cs) ≡ behind_len b + length (encode_utf8_all cs)
signs-len false [] = refl
signs-len true [] = refl
signs-len false (c ∷ cs) = elim (cases_eq c 92) [
  | inl is ↦ rw (eq-eqb c 92 is)
      (omega (arith, signs-len true cs, whole_len c cs, len_utf8_ascii c (omega arith)))
  | inr other ↦ rw (ne_eqb c 92 other) (omega (arith, signs-len false cs, whole_len c cs))
]
signs-len true (c ∷ cs) = omega (arith, signs-len false cs, whole_len c cs)

-- the signs of a text of UTF-8 have as many bytes as the text
pub signs-text : (text : List ℕ) → IsUtf8 text → signs_len (signs_of text) ≡ length text
signs-text text u = omega (arith, signs-len false (chars text), ap length (encodes-chars text u))

-- signs and then others have the bytes of both
pub signs-split : (front rest : List Sign)
    → signs_len (front ++ rest) ≡ signs_len front + signs_len rest
signs-split [] rest = omega arith
signs-split (s ∷ front) rest = omega (arith, signs-split front rest)

-- ---- each element has a sign at least

-- an element is written by a sign at least
part_some : (e : Element) (part : List Sign) → IsElement e part → 0 < length part
part_some e part h = grind arith

-- what is read is the part in front
pub element_split : (ss : List Sign) (e : Element) (rest : List Sign) → element_at ss ≡ has e rest
    → (part : List Sign) × (ss ≡ part ++ rest) × IsElement e part
element_split ss e rest is = rw is at (element_read ss)

-- each element that is read has a sign at least
pub element_shrinks : Shrinks Element element_at
element_shrinks ss e rest is =
    let p = element_split ss e rest is in
    omega (arith, part_some e p.0 p.2, ap length p.1, length-append p.0 rest)

-- ---- what is known of a source's elements at each step

-- the elements of a source that were read so far, and what was found of them
pub record ElementsSoFar (start : List Sign) (gathered : Result (Vec Element) SourceError)
    (left : List Sign) : Type 0 where
  pub elements : List Element
  pub front : List Sign
  pub pieces : SoFar Element element_at start elements left
  pub split : start ≡ front ++ left
  pub are : AreFound elements gathered

-- one element more is found, unless memory runs out
found_more : (es : List Element) (e : Element) (g : Result (Vec Element) SourceError)
    (x : Result Element SourceError) (g' : Result (Vec Element) SourceError)
    → AreFound es g → IsFound e x → IsWithElement g x g' → AreFound (es ++ e ∷ []) g'
found_more es e g x g' a f w = grind arith

-- one element more is read, and found unless memory runs out
pub elements_more : (start left rest : List Sign) (e : Element)
    (g : Result (Vec Element) SourceError) (x : Result Element SourceError)
    (g' : Result (Vec Element) SourceError)
    → ElementsSoFar start g left → element_at left ≡ has e rest → IsFound e x → IsWithElement g x g'
    → ElementsSoFar start g' rest
elements_more start left rest e g x g' s is f w =
    let p = element_split left e rest is in
    record {
      elements = s.elements ++ e ∷ [];
      front = s.front ++ p.0;
      pieces =
          so_far_more Element element_at element_shrinks start s.elements left e rest s.pieces is;
      split = cc (p.1, append_assoc s.front p.0 rest);
      are = found_more s.elements e g x g' s.are f w;
    }

-- a source that ends here is read as what was found
elements_end : (text : List ℕ) (left : List Sign) (g : Result (Vec Element) SourceError)
    (s : ElementsSoFar (signs_of text) g left) → element_at left ≡ ends []
    → pattern_of text ≡ Ok s.elements
elements_end text left g s e =
    ap (elements_or_offset text)
    (so_far_end Element element_at element_shrinks (signs_of text) s.elements left [] s.pieces e)

-- a source that ends here is refused for want of memory alone
pub end_refused : (text : List ℕ) (left : List Sign) (g : Result (Vec Element) SourceError)
    → ElementsSoFar (signs_of text) g left → element_at left ≡ ends []
    → IsFailedBy g (source_error text)
end_refused text left g s e =
    let are = s.are in rw (elements_end text left g s e) (grind arith)

-- a source that ends here is read as the answer
pub end_value : (text : List ℕ) (left : List Sign) (g : Result (Vec Element) SourceError)
    → ElementsSoFar (signs_of text) g left → element_at left ≡ ends []
    → IfOk g (λ v. pattern_of text ≡ Ok v.items)
end_value text left g s e =
    let are = s.are in rw (elements_end text left g s e) (grind arith)

-- what is left of a source is no longer than the source
pub left_within : (text left : List ℕ) (g : Result (Vec Element) SourceError) → IsUtf8 text
    → IsUtf8 left → ElementsSoFar (signs_of text) g (signs_of left) → length left ≤ length text
left_within text left g u v s = omega (
  arith,
  signs-text text u,
  signs-text left v,
  ap signs_len s.split,
  signs-split s.front (signs_of left),
)

-- a source that is bad here is refused with the offset where this is
pub stuck_refused : (text left : List ℕ) (g : Result (Vec Element) SourceError) → IsUtf8 left
    → ElementsSoFar (signs_of text) g (signs_of left) → element_at (signs_of left) ≡ faulty
    → Faulty (length text - length left) ≡ unwrap_or (source_error text) NoMemory
stuck_refused text left g v s e =
    let stuck = so_far_stuck Element element_at element_shrinks (signs_of text) s.elements
    (signs_of left) s.pieces e in
    rw (stuck, signs-text left v) refl
