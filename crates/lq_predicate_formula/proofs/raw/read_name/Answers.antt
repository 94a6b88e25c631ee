use Rattle.std.proofs.Common.{subst, ◌∙◌}
use Rattle.lq_value.specs.Refusal.{IsRefusedBy}
use Rattle.lq_predicate_formula.proofs.RawLemmas.{name_refused}
use Rattle.lq_predicate_formula.proofs.raw.read_name.Goals as goal

pub returns-clause-refused : goal.returns-clause-refused
returns-clause-refused c =
    subst (IsRefusedBy c.read.result) (name_refused c.args.raw.now c.as_str.result.now
    (c.as_str.ensures.value ∙ c.in_ok-name.ensures.value)) c.read.ensures.refused
