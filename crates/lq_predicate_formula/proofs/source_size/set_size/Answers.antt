use Rattle.std.proofs.Common.{◌∙◌, ◌+◌, ap, arith}
use Rattle.lq_predicate_formula.specs.Capped.{capped}
use Rattle.lq_predicate_formula.proofs.SourceSizeLemmas.{set_empty, set_sized, set_stuck}
use Rattle.lq_predicate_formula.proofs.source_size.set_size.Goals as goal

pub returns-in-None : goal.returns-in-None
returns-in-None c = set_stuck _ c.args.negated c.in-None.ensures.value

pub returns-then-size-le1 : goal.returns-then-size-le1
returns-then-size-le1 c = set_empty _ c.args.negated c.in-Some.size _ c.in-Some.ensures.value
    (omega (arith, c.if-size-le1.true))

pub returns-else-size-le1 : goal.returns-else-size-le1
returns-else-size-le1 c =
    set_sized _ c.in-Some.rest.now c.args.negated c.in-Some.size _ c.in-Some.ensures.text
    c.in-Some.ensures.value (omega (arith, c.if-size-le1.false))
    (c.saturating_add.ensures ∙ ap (λ n. capped (c.in-Some.size + n)) c.begin_size.ensures)
