-- The tokens of a formula with its values in place, found token by token.
use Rattle.std.proofs.Common.{◌≡◌, ◌∙◌, ◌+◌, ◌-◌, ◌<◌, ◌≤◌, ◌==◌, ◌⊎◌, ℕ, zero, suc, Bool, true, false, List, [], ◌∷◌, ◌++◌, length, Option, None, Some, refl, sym, ap, subst, arith, inl, inr}
use Rattle.std.specs.Prelude.{if◌then◌else◌, nat_lt, option_to_list, slice_get}
use Rattle.std.specs.List.{list_all}
use Rattle.std.proofs.lemmas.Bool.{and_parts, false≢true, ne_eqb}
use Rattle.lq_value.specs.declared.op.Op.{Op}
use Rattle.lq_value.specs.declared.op.Op.TheVariants.{Eq, Ne, Lt, Le, Gt, Ge}
use Rattle.lq_value.specs.declared.value.Value.{Value}
use Rattle.lq_predicate_formula.specs.Bytes.{is_space}
use Rattle.lq_predicate_formula.specs.Tokens.{IsAfterWord, HasTokens, IsBlank, IsToken, IsUnquoted, Placed, Token, Yields, bare, opens, closes, bang, ands, ors, op, word, lone, cut}
use Rattle.lq_embed.specs.declared.parameters.Parameter.{Parameter}
use Rattle.lq_embed.specs.BoundFormula.{first_missing, literal_at}
use Rattle.lq_embed.specs.BoundTokens.{raw_for, token_for, tokens_with}
use Rattle.lq_embed.specs.Parameters.{fault_of, first_fault, operator_of, or_later, parameter_at, parameters_after}
use Rattle.lq_embed.specs.Quoting.{literal_for}
use Rattle.lq_embed.proofs.LiteralLemmas.{NoEquals, SameStart, ends_word_same, literal_starts, literal_token, not_next_literal, not_next_same}
use Rattle.lq_embed.proofs.NamedLemmas.{is_parameter}

-- ---- parts of a text that are tokens

-- no token is empty
none_empty : (t : Token) (inside : ℕ) (rest : List ℕ) → IsToken t inside [] rest → ⊥
none_empty t inside rest (inr q) = cc
none_empty opens inside rest (inl u) = cc
none_empty closes inside rest (inl u) = cc
none_empty bang inside rest (inl u) = cc
none_empty ands inside rest (inl u) = cc
none_empty ors inside rest (inl u) = cc
none_empty (op Eq) inside rest (inl (i, inl e)) = cc
none_empty (op Eq) inside rest (inl (i, inr e)) = cc
none_empty (op Ne) inside rest (inl u) = cc
none_empty (op Lt) inside rest (inl u) = cc
none_empty (op Le) inside rest (inl u) = cc
none_empty (op Gt) inside rest (inl u) = cc
none_empty (op Ge) inside rest (inl u) = cc
none_empty (word raw) inside rest (inl u) = u.1.1.1 (sym u.1.0)
none_empty lone inside rest (inl (i, inl e)) = cc
none_empty lone inside rest (inl (i, inr e)) = cc
none_empty cut inside rest (inl (i, (r, inl e))) = cc
none_empty cut inside rest (inl (i, (r, inr e))) = cc

-- ---- the text, token by token

-- the part of a token, or the literal of the parameter that it is
abbrev pub part_or : List Value → List ℕ → Option Parameter → List ℕ
part_or values part None = part
part_or values part (Some p) = literal_at values p

-- the text that has these tokens, with its values in place
unfoldable pub rewritten : List Value → Option Op → (ts : List Placed) (at : ℕ) (bs : List ℕ)
    → HasTokens at bs ts → List ℕ
rewritten values before [] at bs h = bs
rewritten values before (t ∷ ts) at bs h = h.2.blank
    ++ (part_or values h.2.part (parameter_at before t)
    ++ rewritten values (operator_of t.token) ts h.0 h.1 h.3)

-- nothing stays nothing
rewritten_none : (values : List Value) (before : Option Op) (ts : List Placed) (at : ℕ)
    (bs : List ℕ) (h : HasTokens at bs ts) → bs ≡ [] → rewritten values before ts at bs h ≡ []
unfolding rewritten
rewritten_none values before [] at bs h is = is
rewritten_none values before (t ∷ ts) at bs h is = absurd (by h.2.blank h.2.part
    (sym h.2.split ∙ is) h.2.token.token)
  where
    by : (blank part : List ℕ) → blank ++ (part ++ h.1) ≡ []
        → IsToken t.token h.2.token.inside part h.1 → ⊥
    by (b ∷ bl) part e token = cc
    by [] (b ∷ pl) e token = cc
    by [] [] e token = none_empty t.token h.2.token.inside h.1 token

-- ---- values that there are

-- the first parameter has a value, and so have the others
record HasFirst (values : List Value) (p : Parameter) (ps : List Parameter) : Type 0 where
  pub value : Value
  pub is : slice_get values (p.number - 1) ≡ Some value
  pub others : first_missing (length values) ps ≡ None

-- the value at an index
value_at : (values : List Value) (n : ℕ) → n < length values
    → (value : Value) × (slice_get values n ≡ Some value)
value_at [] n lt = absurd (omega arith)
value_at (v ∷ vs) zero lt = (v, refl)
value_at (v ∷ vs) (suc n) lt = value_at vs n (omega arith)

-- what no missing value says of the first parameter
has_first : (values : List Value) (p : Parameter) (ps : List Parameter) → 1 ≤ p.number
    → first_missing (length values) (p ∷ ps) ≡ None → HasFirst values p ps
has_first values p ps one have = by (nat_lt (length values) p.number) refl have
  where
    by : (t : Bool) → nat_lt (length values) p.number ≡ t
        → (if t then Some p.number else first_missing (length values) ps) ≡ None
        → HasFirst values p ps
    by true above none = absurd (let no : ⊥ = cc in no)
    by false within others =
        let le : p.number ≤ length values = grind (arith, within) in
        let v = value_at values (p.number - 1) (omega (arith, one, le)) in
        record { value = v.0; is = v.1; others = others }

-- ---- how the rewritten text begins

-- after an operator it may begin with a literal in place of a word
abbrev Starts : Option Op → List ℕ → List ℕ → Type 0
Starts None rest other = SameStart rest other
Starts (Some o) rest other = SameStart rest other ⊎ NoEquals other

-- after any token
same_starts : (before : Option Op) (rest other : List ℕ) → SameStart rest other
    → Starts before rest other
same_starts None rest other same = same
same_starts (Some o) rest other same = inl same

-- white space is no `\`
space_clear : (b : ℕ) (bs : List ℕ) → IsBlank (b ∷ bs) → (b == 92) ≡ false
space_clear b bs white =
    ne_eqb b 92 (λ e. false≢true (sym (ap is_space e)
    ∙ (and_parts (is_space b) (list_all is_space bs) white).0))

-- after the same white space and the same token
same_after : (t : Token) (inside : ℕ) (blank part rest other : List ℕ) → IsBlank blank
    → IsToken t inside part rest → (rest ≡ [] → other ≡ [])
    → SameStart (blank ++ (part ++ rest)) (blank ++ (part ++ other))
same_after t inside (b ∷ bl) part rest other white token none =
    inr (b, bl ++ (part ++ rest), bl ++ (part ++ other), refl, refl, inl (space_clear b bl white))
same_after t inside [] [] rest other white token none =
    absurd (none_empty t inside rest token)
same_after t inside [] (p ∷ q ∷ ps) rest other white token none =
    inr (p, q ∷ (ps ++ rest), q ∷ (ps ++ other), refl, refl, inr (λ e. cc))
same_after t inside [] (p ∷ []) [] other white token none =
    inl (ap (λ l. p ∷ l) (none refl))
same_after t inside [] (p ∷ []) (r ∷ rest) other white token none =
    inr (p, r ∷ rest, other, refl, refl, inr (λ e. cc))

-- the rewritten text begins as the text, or with a literal after an operator
starts : (values : List Value) (before : Option Op) (ts : List Placed) (at : ℕ) (bs : List ℕ)
    (h : HasTokens at bs ts) → first_missing (length values) (parameters_after before ts) ≡ None
    → Starts before bs (rewritten values before ts at bs h)
unfolding rewritten
starts values before [] at bs h have = same_starts before bs bs (inl refl)
starts values before (t ∷ ts) at bs h have =
    let y = h.2 in
    let rest = rewritten values (operator_of t.token) ts h.0 h.1 h.3 in
    subst (λ l. Starts before l
    (y.blank ++ (part_or values y.part (parameter_at before t) ++ rest)))
    (sym y.split) (by (parameter_at before t) refl have)
  where
    by : (m : Option Parameter) → parameter_at before t ≡ m
        → first_missing (length values) (option_to_list m
        ++ parameters_after (operator_of t.token) ts) ≡ None
        → Starts before (h.2.blank ++ (h.2.part ++ h.1)) (h.2.blank ++ (part_or values h.2.part m
        ++ rewritten values (operator_of t.token) ts h.0 h.1 h.3))
    by None is left = same_starts before _ _ (same_after t.token h.2.token.inside h.2.blank h.2.part
        h.1 _ h.2.white h.2.token.token
        (rewritten_none values (operator_of t.token) ts h.0 h.1 h.3))
    by (Some p) is left =
        let k = is_parameter before t p is in
        let v = has_first values p _ k.number left in
        subst (λ b. Starts b (h.2.blank ++ (h.2.part ++ h.1)) (h.2.blank ++ (literal_at values p
        ++ rewritten values (operator_of t.token) ts h.0 h.1 h.3))) (sym k.before_is)
        (at_literal h.2.blank h.2.white v)
      where
        at_literal : (blank : List ℕ) → IsBlank blank
            → HasFirst values p (parameters_after (operator_of t.token) ts)
            → SameStart (blank ++ (h.2.part ++ h.1)) (blank ++ (literal_at values p
            ++ rewritten values (operator_of t.token) ts h.0 h.1 h.3))
            ⊎ NoEquals (blank ++ (literal_at values p
            ++ rewritten values (operator_of t.token) ts h.0 h.1 h.3))
        at_literal (b ∷ bl) white v =
            inl (inr (b, _, _, refl, refl, inl (space_clear b bl white)))
        at_literal [] white v = inr (rw v.is (literal_starts p.op v.value _))

-- ---- tokens

-- a token stays one before a rest that begins as the other does
kept : (end offset : ℕ) (t : Token) (inside : ℕ) (part rest other : List ℕ)
    → fault_of end offset t ≡ None → IsToken t inside part rest → Starts (operator_of t) rest other
    → IsToken t inside part other
kept end offset t inside part rest other fine (inr q) s = inr q
kept end offset opens inside part rest other fine (inl u) s = inl u
kept end offset closes inside part rest other fine (inl u) s = inl u
kept end offset ands inside part rest other fine (inl u) s = inl u
kept end offset ors inside part rest other fine (inl u) s = inl u
kept end offset bang inside part rest other fine (inl (i, (e, free))) s =
    inl (i, (e, not_next_same 61 rest other s free))
kept end offset (word raw) inside part rest other fine (inl (i, (e, (signs, some, ends)))) s =
    inl (i, (e, (signs, some, ends_word_same rest other s ends)))
kept end offset (op Ne) inside part rest other fine (inl u) s = inl u
kept end offset (op Le) inside part rest other fine (inl u) s = inl u
kept end offset (op Ge) inside part rest other fine (inl u) s = inl u
kept end offset (op Eq) inside part rest other fine (inl (i, inl e)) s = inl (i, inl e)
kept end offset (op Eq) inside part rest other fine (inl (i, inr (e, free))) (inl same) =
    inl (i, inr (e, not_next_same 61 rest other same free))
kept end offset (op Eq) inside part rest other fine (inl (i, inr (e, free))) (inr literal) =
    inl (i, inr (e, not_next_literal other literal))
kept end offset (op Lt) inside part rest other fine (inl (i, (e, free))) (inl same) =
    inl (i, (e, not_next_same 61 rest other same free))
kept end offset (op Lt) inside part rest other fine (inl (i, (e, free))) (inr literal) =
    inl (i, (e, not_next_literal other literal))
kept end offset (op Gt) inside part rest other fine (inl (i, (e, free))) (inl same) =
    inl (i, (e, not_next_same 61 rest other same free))
kept end offset (op Gt) inside part rest other fine (inl (i, (e, free))) (inr literal) =
    inl (i, (e, not_next_literal other literal))
kept end offset lone inside part rest other fine (inl u) s = absurd (let no : ⊥ = cc in no)
kept end offset cut inside part rest other fine (inl u) s = absurd (let no : ⊥ = cc in no)

-- what may follow an unmarked word ends it
pub word_end : (t : Placed) (inside at : ℕ) (part rest raw : List ℕ) → t.raw_offset ≡ t.offset
    → t.offset ≡ at → t.raw_offset ≡ at + inside → t.token ≡ word raw
    → IsToken t.token inside part rest → (part ≡ raw) × IsAfterWord rest
word_end t inside at part rest raw same offset raw_offset is (inl u) =
    let w = subst (λ (k : Token). IsUnquoted k part rest) is u.1 in (w.0, w.1.2)
word_end t inside at part rest raw same offset raw_offset is (inr q) =
    absurd (omega (arith, same, offset, raw_offset, q.0))

-- the bytes have these tokens from any offset on
abbrev pub Lexes : List ℕ → List Token → Type 0
Lexes bs ts = (at : ℕ) → (ps : List Placed) × HasTokens at bs ps × (bare ps ≡ ts)

-- white space, a token, and the tokens of the rest
one_more : (t : Token) (inside : ℕ) (blank part rest : List ℕ) (ts : List Token) → IsBlank blank
    → IsToken t inside part rest → Lexes rest ts → Lexes (blank ++ (part ++ rest)) (t ∷ ts)
one_more t inside blank part rest ts white token behind at =
    let first = at + length blank in
    let here : Placed = record { offset = first; raw_offset = first + inside; token = t } in
    let next = first + length part in
    let others = behind next in
    let yields : Yields at (blank ++ (part ++ rest)) here next rest = record {
      blank = blank;
      part = part;
      split = refl;
      white = white;
      token = record { offset = refl; inside = inside; raw = refl; token = token };
      is_next = refl;
    } in
    (here ∷ others.0, (next, rest, yields, others.1), ap (λ us. t ∷ us) others.2)

-- no token up to here is faulty, and neither is the next
fine_first : (fault later : Option ℕ) → or_later fault later ≡ None
    → (fault ≡ None) × (later ≡ None)
fine_first None later none = (refl, none)
fine_first (Some n) later none = absurd (let no : ⊥ = cc in no)

-- the rewritten text has the tokens with the words of the values
pub lexes : (values : List Value) (before : Option Op) (ts : List Placed) (at : ℕ) (bs : List ℕ)
    (h : HasTokens at bs ts) (end : ℕ) → first_fault end ts ≡ None
    → first_missing (length values) (parameters_after before ts) ≡ None
    → Lexes (rewritten values before ts at bs h) (tokens_with values before ts)
unfolding rewritten
lexes values before [] at bs h end fine have = λ from. ([], h, refl)
lexes values before (t ∷ ts) at bs h end fine have =
    by (parameter_at before t) refl have (λ left.
    lexes values (operator_of t.token) ts h.0 h.1 h.3 end
    (fine_first (fault_of end t.offset t.token) (first_fault end ts) fine).1 left)
  where
    by : (m : Option Parameter) → parameter_at before t ≡ m
        → first_missing (length values) (option_to_list m
        ++ parameters_after (operator_of t.token) ts) ≡ None
        → (first_missing (length values) (parameters_after (operator_of t.token) ts) ≡ None
        → Lexes (rewritten values (operator_of t.token) ts h.0 h.1 h.3)
        (tokens_with values (operator_of t.token) ts))
        → Lexes (h.2.blank ++ (part_or values h.2.part m
        ++ rewritten values (operator_of t.token) ts h.0 h.1 h.3))
        (token_for values t.token m ∷ tokens_with values (operator_of t.token) ts)
    by None is left others =
        let f = fine_first (fault_of end t.offset t.token) (first_fault end ts) fine in
        let rest = rewritten values (operator_of t.token) ts h.0 h.1 h.3 in
        one_more t.token h.2.token.inside h.2.blank h.2.part rest
        (tokens_with values (operator_of t.token) ts) h.2.white
        (kept end t.offset t.token h.2.token.inside h.2.part h.1 rest f.0 h.2.token.token
        (starts values (operator_of t.token) ts h.0 h.1 h.3 left)) (others left)
    by (Some p) is left others =
        let rest = rewritten values (operator_of t.token) ts h.0 h.1 h.3 in
        let k = is_parameter before t p is in
        let v = has_first values p (parameters_after (operator_of t.token) ts) k.number left in
        let w = word_end t h.2.token.inside (at + length h.2.blank) h.2.part h.1 k.raw k.unmarked
        h.2.token.offset h.2.token.raw k.is_word h.2.token.token in
        let s : SameStart h.1 rest =
        subst (λ (u : Token). Starts (operator_of u) h.1 rest) k.is_word
        (starts values (operator_of t.token) ts h.0 h.1 h.3 v.others) in
        let l = literal_token p.op v.value rest (ends_word_same h.1 rest s w.1) in
        rw v.is (one_more (word (raw_for p.op v.value)) l.0 h.2.blank (literal_for p.op v.value)
        rest (tokens_with values (operator_of t.token) ts) h.2.white l.1 (others v.others))
