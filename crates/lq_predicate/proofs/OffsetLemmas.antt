-- Where the fault of a token lies.
use Rattle.std.proofs.Common.{◌≡◌, ◌≤◌, ◌+◌, ◌-◌, ℕ, suc, List, [], ◌∷◌, ◌++◌, length, Some, ap, ◌∙◌, arith, inl, inr}
use Rattle.std.proofs.lemmas.List.{length-append}
use Rattle.std.specs.Result.{result_err}
use Rattle.lq_value.specs.declared.op.Op.{Op}
use Rattle.lq_value.specs.declared.op.Op.TheVariants.{Eq, Ne}
use Rattle.lq_value.specs.Element.{Element}
use Rattle.lq_value.specs.Sign.{signs_of, signs_len}
use Rattle.lq_value.specs.Source.{Pieces, whole, stuck, pieces_of, element_at, elements_or_offset}
use Rattle.lq_predicate_formula.specs.Tokens.{Token, opens, closes, bang, ands, ors, op, word, lone, cut, Placed, IsQuoted, IsTokenAt, IsUnquoted, Yields}
use Rattle.lq_predicate_formula.specs.Literals.{literal_fault}
use Rattle.lq_predicate_formula.specs.Machine.{Expected, after_op}
use Rattle.lq_predicate_formula.specs.MachineReading.{pattern_fault, pattern_fault_of_word}

-- ---- the offset of a pattern's fault is within its raw text

-- how long the text within a token is
abbrev raw_length : Token → ℕ
raw_length (word raw) = length raw
raw_length t = 0

-- the offset where a source is stuck lies within it
stuck_within : (raw : List ℕ) (ps : Pieces Element) (k : ℕ)
    → result_err (elements_or_offset raw ps) ≡ Some k → k ≤ length raw
stuck_within raw (whole es rest) k e = cc
stuck_within raw (stuck rest) k e =
    let same : length raw - signs_len rest ≡ k = cc in
    omega (arith, same)

-- the offset where a literal is bad lies within it
literal_within : (o : Op) (raw : List ℕ) (k : ℕ) → literal_fault o raw ≡ Some k → k ≤ length raw
literal_within Eq raw k e = stuck_within raw (pieces_of element_at (signs_of raw)) k e
literal_within Ne raw k e = stuck_within raw (pieces_of element_at (signs_of raw)) k e
literal_within o raw k e = cc

-- the offset where a word is bad lies within it
word_within : (p : Expected) (raw : List ℕ) (k : ℕ) → pattern_fault_of_word p raw ≡ Some k
    → k ≤ length raw
word_within (after_op a o) raw k e = literal_within o raw k e
word_within p raw k e = cc

-- the offset where a token is bad lies within its text
fault_within : (p : Expected) (u : Token) (k : ℕ) → pattern_fault p u ≡ Some k → k ≤ raw_length u
fault_within p (word raw) k e = word_within p raw k e
fault_within p opens k e = cc
fault_within p closes k e = cc
fault_within p bang k e = cc
fault_within p ands k e = cc
fault_within p ors k e = cc
fault_within p (op o) k e = cc
fault_within p lone k e = cc
fault_within p cut k e = cc

-- ---- no raw text is longer than its token

-- an operator has no raw text
unquoted_small : (t : Token) (part rest : List ℕ) → IsUnquoted t part rest
    → raw_length t ≤ length part
unquoted_small opens part rest h = omega arith
unquoted_small closes part rest h = omega arith
unquoted_small bang part rest h = omega arith
unquoted_small ands part rest h = omega arith
unquoted_small ors part rest h = omega arith
unquoted_small (op o) part rest h = omega arith
unquoted_small (word raw) part rest h = let e = ap length h.0 in omega (arith, e)
unquoted_small lone part rest h = omega arith
unquoted_small cut part rest h = omega arith

-- a quoted text is longer than its raw text
quoted_small : (t : Token) (raw part : List ℕ) → t ≡ word raw → IsQuoted raw part
    → raw_length t ≤ length part
quoted_small t raw part e q =
    let same : raw_length t ≡ length raw = ap raw_length e in
    let long : length part ≡ suc (length (raw ++ q.0 ∷ [])) = ap length q.3 in
    omega (arith, same, long, length-append raw (q.0 ∷ []))

-- the raw text of a token begins one byte after the token at most, and is no longer
token_small : (at : ℕ) (part rest : List ℕ) (t : Placed) → IsTokenAt at part rest t
    → (t.raw_offset ≤ suc at) × (raw_length t.token ≤ length part)
token_small at part rest t h = elim h.token [
  | inl u ↦ (
    let is : t.raw_offset ≡ at + 0 = h.raw ∙ ap (λ i. at + i) u.0 in omega (arith, is),
    unquoted_small t.token part rest u.1,
  )
  | inr q ↦ (
    let is : t.raw_offset ≡ at + 1 = h.raw ∙ ap (λ i. at + i) q.0 in omega (arith, is),
    quoted_small t.token q.1.0 part q.1.1 q.1.2,
  )
]

-- the offset of the fault of a pattern is no more than one past twice the text
pub pattern_offset-bound : (at : ℕ) (bs : List ℕ) (t : Placed) (next : ℕ) (rest : List ℕ)
    (p : Expected)
    (k : ℕ) → Yields at bs t next rest → next + length rest ≡ at + length bs
    → pattern_fault p t.token ≡ Some k → t.raw_offset + k ≤ suc ((at + length bs) + length bs)
pattern_offset-bound at bs t next rest p k y total e =
    let small = token_small (at + length y.blank) y.part rest t y.token in
    let within = fault_within p t.token k e in
    let split : length bs ≡ length y.blank + (length y.part + length rest) = ap length y.split
    ∙ length-append y.blank (y.part ++ rest)
    ∙ ap (λ n. length y.blank + n) (length-append y.part rest) in
    omega (arith, small.0, small.1, within, split)
