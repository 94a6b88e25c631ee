use Rattle.std.proofs.Common.{subst}
use Rattle.std.specs.Prelude.{Err}
use Rattle.lq_predicate.specs.Building.{IsWholeOf}
use Rattle.lq_predicate.specs.QuerySize.{query_size}
use Rattle.lq_predicate.proofs.ReadLemmas.{too_great}
use Rattle.lq_predicate.proofs.formula_reader.fault_offset.Goals as goal

pub returns-in-Err-Fault : goal.returns-in-Err-Fault
returns-in-Err-Fault c = subst (λ stop. IsWholeOf query_size c.args.formula.now (Err stop))
    c.in-Err-Fault.field-0-is c.in-Err-Fault.ensures.whole

pub returns-then-whole-gt-MAX_DEPTH : goal.returns-then-whole-gt-MAX_DEPTH
returns-then-whole-gt-MAX_DEPTH c =
    let w = c.in-Ok.ensures.whole in
    too_great c.args.formula.now w.0 c.in-Ok.size w.1 w.2 c.then-whole-gt-MAX_DEPTH.either
