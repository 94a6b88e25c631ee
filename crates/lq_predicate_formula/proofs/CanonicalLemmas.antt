-- The tokens of a canonical text.
use Rattle.std.proofs.Common.{◌≡◌, ◌+◌, ℕ, Bool, true, false, List, [], ◌∷◌, ◌++◌, length, refl, sym, ap, ◌∙◌, subst, inl, inr, append_assoc}
use Rattle.std.specs.Prelude.{◌==◌, if◌then◌else◌}
use Rattle.std.specs.List.{list_all}
use Rattle.std.proofs.lemmas.Bool.{and_parts, false≢true}
use Rattle.lq_value.specs.declared.literal.Literal.{Literal}
use Rattle.lq_value.specs.declared.literal.Literal.TheVariants.{Pattern, Plain}
use Rattle.lq_value.specs.declared.op.Op.{Op}
use Rattle.lq_value.specs.declared.op.Op.TheVariants.{Eq, Ne, Lt, Le, Gt, Ge}
use Rattle.lq_value.specs.Name.{is_attr_name}
use Rattle.lq_predicate_formula.specs.Bytes.{ends_word}
use Rattle.lq_predicate_formula.specs.Tokens.{Token, opens, closes, bang, ands, ors, op, word, Placed, bare, plain, AreSigns, IsAfterWord, HasTokens, IsNotNext, IsOp, IsToken, IsUnquoted, Yields}
use Rattle.lq_predicate_formula.specs.Query.{Query, Compare, Not, And, Or, Queries, no_more, and_then}
use Rattle.lq_predicate_formula.specs.Canonical.{attr_then, in_marks, is_bare_byte, literal_text, op_text, others_written, parts_written, quoted, written}
use Rattle.lq_predicate_formula.specs.Limits.{AreProper, IsGoodLiteral, IsProper}
use Rattle.lq_predicate_formula.specs.Lexing.{begins_with}
use Rattle.lq_predicate_formula.proofs.QuotingLemmas.{Ends, quoted_ends}
use Rattle.lq_predicate_formula.proofs.SignLemmas.{is_not_next, not_that}
use Rattle.lq_predicate_formula.proofs.PatternTextLemmas.{pattern_ends}

-- ---- what a canonical text says

-- the raw text of an attribute
abbrev pub raw_attr : List ℕ → List ℕ
raw_attr name = if list_all is_bare_byte name then name else quoted name

abbrev mutual
  -- the tokens of a query's canonical text
  pub said : Query → List Token
  said (Compare attr o literal) =
      opens ∷ word (raw_attr attr) ∷ op o ∷ word (literal_text literal) ∷ closes ∷ []
  said (Not q) = bang ∷ said q
  said (And qs) = opens ∷ (parts_said ands qs ++ closes ∷ [])
  said (Or qs) = opens ∷ (parts_said ors qs ++ closes ∷ [])

  -- the tokens of the parts of an And or an Or, with a separator between two of them
  pub parts_said : Token → Queries → List Token
  parts_said separator no_more = []
  parts_said separator (and_then q qs) = said q ++ others_said separator qs

  -- the tokens of the parts after the first, a separator before each
  pub others_said : Token → Queries → List Token
  others_said separator no_more = []
  others_said separator (and_then q qs) = separator ∷ (said q ++ others_said separator qs)

-- ---- one token more

-- the bytes have these tokens, wherever they stand
abbrev pub Lexes : List ℕ → List Token → Type 0
Lexes bs ts = (at : ℕ) → (ps : List Placed) × HasTokens at bs ps × (bare ps ≡ ts)

-- the empty text has no tokens
pub lexes_end : Lexes [] []
lexes_end at = ([], refl, refl)

-- a text that begins with a token has that token, and then those of the rest
one : (t : Token) (inside : ℕ) (part rest : List ℕ) (ts : List Token) → IsToken t inside part rest
    → Lexes rest ts → Lexes (part ++ rest) (t ∷ ts)
one t inside part rest ts k h at =
    let here : Placed = record { offset = at + 0; raw_offset = at + 0 + inside; token = t } in
    let next = at + 0 + length part in
    let others = h next in
    let first : Yields at (part ++ rest) here next rest = record {
      blank = [];
      part = part;
      split = refl;
      white = refl;
      token = record { offset = refl; inside = inside; raw = refl; token = k };
      is_next = refl;
    } in
    (here ∷ others.0, (next, rest, first, others.1), ap (λ us. t ∷ us) others.2)

-- a token that is no quoted text
plainly : (t : Token) (part rest : List ℕ) (ts : List Token) → IsUnquoted t part rest
    → Lexes rest ts → Lexes (part ++ rest) (t ∷ ts)
plainly t part rest ts k h = one t 0 part rest ts (inl (refl, k)) h

-- a quoted text
lex_quoted : (raw rest : List ℕ) (ts : List Token) → Ends raw → Lexes rest ts
    → Lexes (in_marks raw rest) (word raw ∷ ts)
lex_quoted raw rest ts ends h =
    subst (λ l. Lexes (34 ∷ l) (word raw ∷ ts)) (append_assoc raw (34 ∷ []) rest)
    (one (word raw) 1 (34 ∷ (raw ++ 34 ∷ [])) rest ts
    (inr (refl, (raw, refl, (34, inl refl, ends, refl)))) h)

-- ---- bare words

-- no byte of a bare name is `\`
pub no_backslash : (b : ℕ) → is_bare_byte b ≡ true → (b == 92) ≡ false
no_backslash b e = not_that is_bare_byte 92 b refl e

-- no byte of a bare name ends a word
ends_no : (b : ℕ) → is_bare_byte b ≡ true → ends_word b ≡ false
ends_no b e =
    let no = λ (c : ℕ) (f : is_bare_byte c ≡ false). not_that is_bare_byte c b f e in
    rw (no 32 refl, no 9 refl, no 10 refl, no 13 refl, no 40 refl)
    (rw (no 41 refl, no 33 refl, no 38 refl, no 124 refl, no 61 refl)
    (rw (no 60 refl, no 62 refl, no 34 refl, no 39 refl)))

-- a bare name is signs none of which ends a word
bare_signs : (name : List ℕ) → list_all is_bare_byte name ≡ true → AreSigns ends_word name
bare_signs [] e = ([], refl, tt)
bare_signs (b ∷ bs) e =
    let all = and_parts (is_bare_byte b) (list_all is_bare_byte bs) e in
    let k = bare_signs bs all.1 in
    (plain b ∷ k.0, ap (λ l. b ∷ l) k.1, ((no_backslash b all.0, ends_no b all.0), k.2))

-- the name of an attribute, written bare or between marks, is one word
attr_by : (name rest : List ℕ) (ts : List Token) (t : Bool) → is_attr_name name ≡ true
    → list_all is_bare_byte name ≡ t → IsAfterWord rest → Lexes rest ts
    → Lexes (if t then name ++ rest else in_marks (quoted name) rest)
    (word (if t then name else quoted name) ∷ ts)
attr_by name rest ts true named e h k =
    let some : name ≡ [] → ⊥ = λ none. false≢true (sym (ap is_attr_name none) ∙ named) in
    plainly (word name) name rest ts (refl, (bare_signs name e, some, h)) k
attr_by name rest ts false named e h k = lex_quoted (quoted name) rest ts (quoted_ends name) k

-- ---- operators and literals

-- no `=` stands before a quotation mark
no_equals : (rest : List ℕ) → IsNotNext 61 (34 ∷ rest)
no_equals rest = is_not_next 61 (34 ∷ rest) refl

-- the text of an operator before a quotation mark is that operator, and a word before it ends there
op_is : (o : Op) (rest : List ℕ)
    → IsAfterWord (op_text o ++ 34 ∷ rest) × IsOp o (op_text o) (34 ∷ rest)
op_is Eq rest = (inr (inr (61, 61 ∷ 34 ∷ rest, refl, refl)), inl refl)
op_is Ne rest = (inr (inr (33, 61 ∷ 34 ∷ rest, refl, refl)), refl)
op_is Lt rest = (inr (inr (60, 34 ∷ rest, refl, refl)), (refl, no_equals rest))
op_is Le rest = (inr (inr (60, 61 ∷ 34 ∷ rest, refl, refl)), refl)
op_is Gt rest = (inr (inr (62, 34 ∷ rest, refl, refl)), (refl, no_equals rest))
op_is Ge rest = (inr (inr (62, 61 ∷ 34 ∷ rest, refl, refl)), refl)

-- the text of a good literal ends at its closing mark and not before
literal_ends : (literal : Literal) → IsGoodLiteral literal → Ends (literal_text literal)
literal_ends (Pattern es) h = pattern_ends es h
literal_ends (Plain text) h = quoted_ends text

-- ---- queries

-- no canonical text begins with `=`, so `!` before one is not `!=`
begins_no : (q : Query) (rest : List ℕ) → begins_with 61 (written q rest) ≡ false
begins_no (Compare attr o literal) rest = refl
begins_no (Not q) rest = refl
begins_no (And qs) rest = refl
begins_no (Or qs) rest = refl

-- a text between parentheses has its tokens between the two parentheses
in_parens : (inner rest : List ℕ) (ts us : List Token) → Lexes inner (ts ++ closes ∷ us)
    → Lexes (40 ∷ inner) ((opens ∷ (ts ++ closes ∷ [])) ++ us)
in_parens inner rest ts us h =
    rw (append_assoc ts (closes ∷ []) us)
    (plainly opens (40 ∷ []) inner (ts ++ closes ∷ us) refl h)

-- `)` is a token of its own
closing : (rest : List ℕ) (ts : List Token) → Lexes rest ts → Lexes (41 ∷ rest) (closes ∷ ts)
closing rest ts h = plainly closes (41 ∷ []) rest ts refl h

mutual
  -- the canonical text of a proper query has the tokens of `said`
  pub lexes_written : (q : Query) (rest : List ℕ) (ts : List Token) → IsProper q → Lexes rest ts
      → Lexes (written q rest) (said q ++ ts)
  lexes_written (Compare attr o literal) rest ts h k =
      let l = literal_text literal in
      let marked = in_marks l (41 ∷ rest) in
      let us = word l ∷ closes ∷ ts in
      let behind = op_text o ++ marked in
      let is = op_is o (l ++ 34 ∷ 41 ∷ rest) in
      plainly opens (40 ∷ []) (attr_then attr behind) (word (raw_attr attr) ∷ op o ∷ us) refl
      (attr_by attr behind (op o ∷ us) (list_all is_bare_byte attr) h.0 refl is.0
      (plainly (op o) (op_text o) marked us is.1
      (lex_quoted l (41 ∷ rest) (closes ∷ ts) (literal_ends literal h.1.1) (closing rest ts k))))
  lexes_written (Not q) rest ts h k = plainly bang (33 ∷ []) (written q rest) (said q ++ ts)
      (refl, is_not_next 61 (written q rest) (begins_no q rest)) (lexes_written q rest ts h k)
  lexes_written (And qs) rest ts h k = in_parens (parts_written (38 ∷ 38 ∷ []) qs (41 ∷ rest)) rest
      (parts_said ands qs) ts (lexes_parts (38 ∷ 38 ∷ []) ands (λ l. refl) qs (41 ∷ rest)
      (closes ∷ ts) h.1 (closing rest ts k))
  lexes_written (Or qs) rest ts h k = in_parens (parts_written (124 ∷ 124 ∷ []) qs (41 ∷ rest)) rest
      (parts_said ors qs) ts (lexes_parts (124 ∷ 124 ∷ []) ors (λ l. refl) qs (41 ∷ rest)
      (closes ∷ ts) h.1 (closing rest ts k))

  -- the same of the parts of an And or an Or
  lexes_parts : (bytes : List ℕ) (t : Token) → ((l : List ℕ) → IsUnquoted t bytes l)
      → (qs : Queries) (rest : List ℕ) (ts : List Token) → AreProper qs → Lexes rest ts
      → Lexes (parts_written bytes qs rest) (parts_said t qs ++ ts)
  lexes_parts bytes t s no_more rest ts h k = k
  lexes_parts bytes t s (and_then q qs) rest ts h k =
      rw (append_assoc (said q) (others_said t qs) ts)
      (lexes_written q (others_written bytes qs rest) (others_said t qs ++ ts) h.0
      (lexes_others bytes t s qs rest ts h.1 k))

  -- the same of the parts after the first
  lexes_others : (bytes : List ℕ) (t : Token) → ((l : List ℕ) → IsUnquoted t bytes l)
      → (qs : Queries) (rest : List ℕ) (ts : List Token) → AreProper qs → Lexes rest ts
      → Lexes (others_written bytes qs rest) (others_said t qs ++ ts)
  lexes_others bytes t s no_more rest ts h k = k
  lexes_others bytes t s (and_then q qs) rest ts h k =
      rw (append_assoc (said q) (others_said t qs) ts)
      (plainly t bytes (written q (others_written bytes qs rest))
      (said q ++ (others_said t qs ++ ts)) (s (written q (others_written bytes qs rest)))
      (lexes_written q (others_written bytes qs rest) (others_said t qs ++ ts) h.0
      (lexes_others bytes t s qs rest ts h.1 k)))
