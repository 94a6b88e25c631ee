use Rattle.std.proofs.Common.{ap, sym}
use Rattle.lq_embed.specs.SessionState.{holds}
use Rattle.lq_c.specs.declared.handle_target.Served.{Served}
use Rattle.lq_c.proofs.LineLemmas.{line-answered}
use Rattle.lq_c.proofs.handles.lqp_answer.Goals as goal

pub returns-clause-turned : goal.returns-clause-turned
returns-clause-turned c = line-answered (holds c.served_mut.result.now.embedded)
    (holds c.args.handle.now.served.embedded) (holds c.answer.new.self) c.answer.result _
    (sym c.if-is_err.ensures.value)
    (ap (λ (s : Served). holds s.embedded) c.served_mut.ensures.value)
    c.answer.ensures.turned
