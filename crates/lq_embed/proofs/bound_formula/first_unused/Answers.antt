use Rattle.std.proofs.Common.{◌∙◌, sym}
use Rattle.lq_value.specs.declared.value.Value.TheVariants.{UInt64}
use Rattle.lq_embed.proofs.BoundLemmas.{unused_here, unused_next}
use Rattle.lq_embed.proofs.bound_formula.first_unused.Goals as goal

pub returns-then-not-has_parameter : goal.returns-then-not-has_parameter
returns-then-not-has_parameter c = sym (c.loop-index.invariant
    ∙ unused_here c.args.parameters.now c.args.values.now c.loop-index.index (UInt64 0)
    c.loop-index-test.true (sym c.has_parameter.ensures ∙ c.if-not-has_parameter.true))

pub loop-index-preserved : goal.loop-index-preserved
loop-index-preserved c = c.loop-index.invariant
    ∙ unused_next c.args.parameters.now c.args.values.now c.loop-index.index (UInt64 0)
    c.loop-index-test.true (sym c.has_parameter.ensures ∙ c.if-not-has_parameter.false)
