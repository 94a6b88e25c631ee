use Rattle.std.proofs.Common.{◌∙◌, subst, List, ℕ}
use Rattle.lq_script.specs.Written.{WritesOrFails}
use Rattle.lq_script.proofs.commands.report_refusal.Goals as goal

pub returns-in-Ok-clause-reported : goal.returns-in-Ok-clause-reported
returns-in-Ok-clause-reported g c two =
    subst (λ (line : List ℕ). WritesOrFails line (g.F.Sink.written c.args.faults.now)
    (g.F.Sink.written
    c.report.new.faults) (g.F.Sink.failed c.report.new.faults)
    (g.F.Sink.stalled c.report.new.faults))
    (c.as_str.ensures.value ∙ c.in-Ok.ensures.ok) c.report.ensures
