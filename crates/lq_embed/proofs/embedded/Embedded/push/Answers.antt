use Rattle.std.proofs.Common.{refl}
use Rattle.lq_embed.specs.Pushed.{push_outcome}
use Rattle.lq_embed.proofs.CallLemmas.{pushes-done, pushes-refused}
use Rattle.lq_embed.proofs.embedded.Embedded.push.Goals as goal

pub returns-in-Ok : goal.returns-in-Ok
returns-in-Ok c = pushes-done _ _ (push_outcome c.args.push c.args.self.now.stack)
    c.in-Ok.ensures refl

pub returns-in-Err : goal.returns-in-Err
returns-in-Err c = pushes-refused _ _ _ _ (push_outcome c.args.push c.args.self.now.stack)
    c.in-Err.refusal c.in-Err.ensures refl c.refused.ensures.status c.refused.ensures.after
