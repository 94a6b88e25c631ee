use Rattle.std.proofs.Common.{ap}
use Rattle.lq_predicate_formula.specs.Literals.{literal_of}
use Rattle.lq_predicate_formula.specs.Sizes.{literal_bytes}
use Rattle.lq_predicate.proofs.QuerySizeLemmas.{mapped, sized}
use Rattle.lq_predicate.proofs.sizes.SizesBuilder.comparison.Goals as goal

pub returns-in-Ok : goal.returns-in-Ok
returns-in-Ok c = λ name is.
    let l = mapped literal_bytes (literal_of c.args.op c.args.raw.now) _ c.in-Ok.ensures.ok in
    (l.0, l.1, ap (sized 1) (c.joined_size.ensures name l.0 is l.2))
