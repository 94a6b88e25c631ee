-- The canonical text of a query within the limits reads as that query.
use Rattle.std.proofs.Common.{◌≡◌, ◌≤◌, ℕ, zero, suc, Bool, true, false, List, [], ◌∷◌, Some, None, refl, sym, ap, ◌∙◌, subst, arith, inl, inr, append-nil}
use Rattle.std.specs.Prelude.{if◌then◌else◌}
use Rattle.std.specs.List.{list_all}
use Rattle.lq_value.specs.declared.literal.Literal.{Literal}
use Rattle.lq_value.specs.declared.literal.Literal.TheVariants.{Pattern, Plain}
use Rattle.lq_value.specs.declared.op.Op.{Op}
use Rattle.lq_value.specs.declared.op.Op.TheVariants.{Eq, Ne}
use Rattle.lq_value.specs.Compare.{suits}
use Rattle.lq_value.specs.Laws.{SourcesAreRead}
use Rattle.lq_value.specs.Name.{is_attr_name}
use Rattle.std.proofs.lemmas.Bool.{and_parts, false≢true, le-leb}
use Rattle.lq_predicate_formula.specs.Tokens.{Token, ands, ors, op, word}
use Rattle.lq_predicate_formula.specs.Query.{Query, Compare, Not, And, Or, Queries, no_more, and_then, queries, list_of}
use Rattle.lq_predicate_formula.specs.Literals.{literal_of, name_of, pattern_literal, unescaped}
use Rattle.lq_predicate_formula.specs.Grammar.{Reading, MoreParts, IsAnd, IsOr, IsNot, IsFormula, nesting}
use Rattle.lq_predicate_formula.specs.Canonical.{canonical, deepest, depth, is_bare_byte, literal_text, quoted}
use Rattle.lq_predicate_formula.specs.Limits.{AreProper, HasTwo, IsGoodLiteral, IsProper, IsWithinLimits}
use Rattle.lq_predicate_formula.specs.Faults.{Reads}
use Rattle.lq_predicate_formula.proofs.SoundLemmas.{comparison_reads}
use Rattle.lq_predicate_formula.proofs.QuotingLemmas.{quoted_back}
use Rattle.lq_predicate_formula.proofs.PatternTextLemmas.{pattern_written}
use Rattle.lq_predicate_formula.proofs.PartLemmas.{over_zero}
use Rattle.lq_predicate_formula.proofs.CanonicalLemmas.{lexes_end, lexes_written, no_backslash, others_said, parts_said, raw_attr, said}

-- ---- names and literals

-- a name of bare bytes has no `\` to take off
bare_back : (name : List ℕ) → list_all is_bare_byte name ≡ true → unescaped false name ≡ name
bare_back [] e = refl
bare_back (b ∷ bs) e =
    let all = and_parts (is_bare_byte b) (list_all is_bare_byte bs) e in
    rw (no_backslash b all.0, bare_back bs all.1)

-- a name, written bare or between marks, reads back
raw_back : (name : List ℕ) (t : Bool) → list_all is_bare_byte name ≡ t
    → unescaped false (if t then name else quoted name) ≡ name
raw_back name true e = bare_back name e
raw_back name false e = quoted_back name

-- the name of an attribute, as it is written, is read as that name
attr_back : (name : List ℕ) → is_attr_name name ≡ true → name_of (raw_attr name) ≡ Some name
attr_back name e =
    ap (λ n. if is_attr_name n then Some n else None)
    (raw_back name (list_all is_bare_byte name) refl) ∙ ap (λ t. if t then Some name else None) e

-- the text of a good literal is read as that literal, by an operator that it suits
literal_back : SourcesAreRead → (literal : Literal) (o : Op) → suits literal o ≡ true
    → IsGoodLiteral literal → literal_of o (literal_text literal) ≡ Some literal
literal_back law (Pattern es) Eq e h =
    ap pattern_literal ((law (literal_text (Pattern es)) es).1 (pattern_written es h))
literal_back law (Pattern es) Ne e h =
    ap pattern_literal ((law (literal_text (Pattern es)) es).1 (pattern_written es h))
literal_back law (Pattern es) o e h = absurd (false≢true e)
literal_back law (Plain text) Eq e h = absurd (false≢true e)
literal_back law (Plain text) Ne e h = absurd (false≢true e)
literal_back law (Plain text) o e h = ap (λ l. Some (Plain l)) (quoted_back text)

-- ---- parts

-- one part is an and, and an or
single_and : (P : Reading) (a : List Token) (q : Query) → P a q → IsAnd P a q
single_and P a q h = (q, [], refl, (a, [], sym (append-nil a), h, refl))

-- an and alone is an or of one part
single_or : (P : Reading) (a : List Token) (q : Query) → IsAnd P a q → IsOr P a q
single_or P a q h = (q, [], refl, (a, [], sym (append-nil a), h, refl))

-- one part alone is an or
alone : (P : Reading) (a : List Token) (q : Query) → P a q → IsOr P a q
alone P a q h = single_or P a q (single_and P a q h)

-- a list of queries made of some queries gives them back
same_queries : (qs : Queries) → queries (list_of qs) ≡ qs
same_queries no_more = refl
same_queries (and_then q qs) = ap (and_then q) (same_queries qs)

mutual
  -- the tokens of a proper query that is not too deep are read as that query
  said_reads : SourcesAreRead → (q : Query) (n : ℕ) → IsProper q → depth q ≤ n → IsNot n (said q) q
  said_reads law (Compare attr o literal) (suc n) h d =
      let l = literal_text literal in
      let a = word (raw_attr attr) ∷ op o ∷ word l ∷ [] in
      inr (inl (
        a,
        refl,
        alone (IsNot n) a (Compare attr o literal)
            (comparison_reads n (raw_attr attr) o l attr literal (attr_back attr h.0)
            (literal_back law literal o h.1.0 h.1.1)),
      ))
  said_reads law (Not q) (suc n) h d =
      inr (inr (said q, q, refl, refl, said_reads law q n h (omega arith)))
  said_reads law (And qs) (suc n) h d =
      inr (inl (parts_said ands qs, refl, (parts_read law qs n h.0 h.1 (omega arith)).0))
  said_reads law (Or qs) (suc n) h d =
      inr (inl (parts_said ors qs, refl, (parts_read law qs n h.0 h.1 (omega arith)).1))
  said_reads law q zero h d = absurd (false≢true (over_zero q ∙ le-leb _ _ d))

  -- the tokens of the parts of an And or an Or are read as it
  parts_read : SourcesAreRead → (qs : Queries) (n : ℕ) → HasTwo qs → AreProper qs → deepest qs ≤ n
      → IsOr (IsNot n) (parts_said ands qs) (And qs) × IsOr (IsNot n) (parts_said ors qs) (Or qs)
  parts_read law no_more n two h d = absurd two
  parts_read law (and_then q no_more) n two h d = absurd two
  parts_read law (and_then q (and_then r qs)) n two h d =
      let ps = and_then r qs in
      let one = said_reads law q n h.0 (omega arith) in
      let others = others_read law (and_then r qs) n h.1 (omega arith) in
      let back = sym (same_queries ps) in (
        single_or (IsNot n) (parts_said ands (and_then q ps)) (And (and_then q ps)) (
          q,
          list_of ps,
          ap (λ l. And (and_then q l)) back,
          (said q, others_said ands ps, refl, one, others.0),
        ),
        (
          q,
          list_of ps,
          ap (λ l. Or (and_then q l)) back,
          (said q, others_said ors ps, refl, single_and (IsNot n) (said q) q one, others.1),
        ),
      )

  -- the tokens of the parts after the first are read as those parts
  others_read : SourcesAreRead → (qs : Queries) (n : ℕ) → AreProper qs → deepest qs ≤ n
      → MoreParts (IsNot n) ands (others_said ands qs) (list_of qs)
      × MoreParts (IsAnd (IsNot n)) ors (others_said ors qs) (list_of qs)
  others_read law no_more n h d = (refl, refl)
  others_read law (and_then q qs) n h d =
      let one = said_reads law q n h.0 (omega arith) in
      let others = others_read law qs n h.1 (omega arith) in (
        (said q, others_said ands qs, refl, one, others.0),
        (said q, others_said ors qs, refl, single_and (IsNot n) (said q) q one, others.1),
      )

-- the canonical text of a query within the limits reads as that query
pub canonical_reads : SourcesAreRead → (q : Query) → IsWithinLimits q → Reads (canonical q) q
canonical_reads law q h =
    let lexed = lexes_written q [] [] h.proper lexes_end 0 in
    let reads : IsFormula nesting (said q) q =
    alone (IsNot nesting) (said q) q (said_reads law q nesting h.proper h.shallow) in
    record {
      short = h.brief;
      tokens = lexed.0;
      has = lexed.1;
      formula = subst (λ ts. IsFormula nesting ts q) (sym (lexed.2 ∙ append-nil (said q))) reads;
      few = h.few;
      shallow = h.shallow;
      brief = h.brief;
    }
