use Rattle.std.proofs.Common.{◌∙◌, ◌++◌, ap, inl, sym, append-nil}
use Rattle.std.specs.Prelude.{option_to_list}
use Rattle.lq_embed.proofs.ParameterLemmas.{ends_here, goes_on, stops_at}
use Rattle.lq_embed.proofs.parameters.read_parameters.Goals as goal
use Rattle.lq_embed.proofs.parameters.read_parameters.Goals.{in-Some-parameter_at+in_ok-push, in_default-parameter_at}

pub returns-in-Some-fault_of-clause-err : goal.returns-in-Some-fault_of-clause-err
returns-in-Some-fault_of-clause-err c = inl (stops_at c.loop-placed.invariant
    c.in-Some.ensures.some (c.one_token_list.ensures _ _) (sym c.in-Some-fault_of.ensures))

pub loop-placed-preserved : goal.loop-placed-preserved
loop-placed-preserved c = goes_on c.loop-placed.invariant c.in-Some.ensures.some
    c.in-Some.ensures.offset (sym c.in_default-fault_of.ensures)
    (elim c.match-parameter_at.branch [
      | in-Some-parameter_at+in_ok-push w ↦ ap (λ v. v.items) w.parameters-is
          ∙ (w.in_ok-push.ensures.items ∙ ap (λ m. c.loop-placed.parameters.items
          ++ option_to_list m) w.in-Some-parameter_at.ensures)
      | in_default-parameter_at w ↦ ap (λ v. v.items) w.parameters-is
          ∙ (sym (append-nil c.loop-placed.parameters.items)
          ∙ ap (λ m. c.loop-placed.parameters.items ++ option_to_list m)
          w.in_default-parameter_at.ensures)
    ]) c.operator_of-before.ensures

pub returns-clause-ok : goal.returns-clause-ok
returns-clause-ok c = ends_here c.loop-placed.invariant c.in_default.ensures.none
