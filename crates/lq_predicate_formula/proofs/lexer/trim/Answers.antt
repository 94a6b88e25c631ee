use Rattle.std.proofs.Common.{subst, get_or, pred, ◌<◌, length, ap, arith}
use Rattle.lq_predicate_formula.proofs.CutLemmas.{boundary_behind}
use Rattle.lq_predicate_formula.proofs.lexer.trim.Goals as goal

pub split_at-requires : goal.split_at-requires
split_at-requires c =
    let same = c.as_bytes.ensures.value in
    boundary_behind c.args.rest.now c.count_spaces-n.result c.utf8.rest
    (omega (arith, ap length same, c.count_spaces-n.ensures.bound))
    (λ h. subst (λ bs. get_or bs (pred c.count_spaces-n.result) 0 < 128) same
    (c.count_spaces-n.ensures.last h))
