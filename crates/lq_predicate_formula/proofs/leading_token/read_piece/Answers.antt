use Rattle.std.proofs.Common.{◌≡◌, ◌∙◌, ℕ, subst, sym, get_or, pred, ◌<◌, ◌≤◌, length, ap, arith}
use Rattle.lq_predicate_formula.specs.Lexing.{front_at}
use Rattle.lq_predicate_formula.specs.TokenView.{front_of}
use Rattle.lq_predicate_formula.proofs.CutLemmas.{boundary_behind}
use Rattle.lq_predicate_formula.proofs.TokenLemmas.{front_symbol}
use Rattle.lq_predicate_formula.proofs.leading_token.read_piece.Goals as goal

-- nothing before the raw text is less than a token has
none_inside : (i n : ℕ) → i ≡ 0 → i ≤ n
none_inside i n e = omega arith

pub returns-in-Some-clause-boundary : goal.returns-in-Some-clause-boundary
returns-in-Some-clause-boundary c =
    let same = c.as_bytes-bytes.ensures.value in
    boundary_behind c.args.rest.now c.in-Some.piece.size c.utf8.rest
    (omega (arith, ap length same, c.in-Some.ensures.bound.1))
    (λ _. subst (λ bs. get_or bs (pred c.in-Some.piece.size) 0 < 128) same c.in-Some.ensures.last)

pub returns-in-Some-clause-inside : goal.returns-in-Some-clause-inside
returns-in-Some-clause-inside c = none_inside _ _ c.in-Some.ensures.bound.2

pub returns-in-Some-clause-value : goal.returns-in-Some-clause-value
returns-in-Some-clause-value c =
    let same = c.as_bytes-bytes.ensures.value in
    subst (λ bs. front_of c.in-Some.piece ≡ front_at bs) same (c.in-Some.ensures.some.1
    ∙ sym (front_symbol c.as_bytes-bytes.result.now
    (subst (λ bs. 0 < length bs) (sym same) c.requires) c.in-Some.ensures.some.0))
