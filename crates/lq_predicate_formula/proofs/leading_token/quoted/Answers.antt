use Rattle.std.proofs.Common.{subst, ℕ, get_or, ◌<◌, ◌⊎◌, length, ◌≡◌, arith, ◌∙◌, sym}
use Rattle.lq_predicate_formula.proofs.CutLemmas.{boundary_behind, boundary_quoted}
use Rattle.lq_predicate_formula.proofs.leading_token.quoted.Goals as goal

mark_ascii : (b : ℕ) → (b ≡ 34) ⊎ (b ≡ 39) → b < 128
mark_ascii b h = omega arith

pub split_at-requires : goal.split_at-requires
split_at-requires c = boundary_behind c.args.rest.now 1 c.utf8.rest c.requires.some
    (λ _. mark_ascii _ c.requires.mark)

pub returns-in-Some-clause-boundary : goal.returns-in-Some-clause-boundary
returns-in-Some-clause-boundary c =
    let same = c.as_bytes.ensures.value in
    let rest = c.as_bytes-2.ensures.value ∙ c.split_at.ensures.back in
    boundary_quoted c.args.rest.now c.in-Some.n c.utf8.rest
    (subst (λ bs. c.in-Some.n < length bs) rest c.in-Some.ensures.found.0)
    (subst (λ bs. get_or bs c.in-Some.n 0 < 128) rest
    (subst (λ x. x < 128) (sym c.in-Some.ensures.found.1)
    (subst (λ bs. get_or bs 0 0 < 128) (sym same) (mark_ascii _ c.requires.mark))))
