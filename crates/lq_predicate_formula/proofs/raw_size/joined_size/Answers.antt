use Rattle.std.proofs.Common.{ap, arith, length}
use Rattle.lq_predicate_formula.proofs.SourceSizeLemmas.{length-comparison}
use Rattle.lq_predicate_formula.proofs.raw_size.joined_size.Goals as goal

pub returns : goal.returns
returns c = λ name l is same.
    let e = length-comparison name c.args.op l in
    let op = ap length c.op_text.ensures in
    omega (arith, e, is, same, op, c.saturating_add.ensures)
