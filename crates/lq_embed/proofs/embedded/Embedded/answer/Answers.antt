use Rattle.std.proofs.Common.{rules, Option, subst}
use Rattle.lq_script_request.specs.declared.request.Request.{Request}
use Rattle.lq_script_desk.specs.Keeps.{keeps}
use Rattle.lq_script_desk.specs.Turned.{TurnedByLine}
use Rattle.lq_embed.proofs.LineLemmas.{line-asks}
use Rattle.lq_embed.proofs.embedded.Embedded.answer.Goals as goal

pub returns-clause-turned : goal.returns-clause-turned
returns-clause-turned c =
    subst
    (λ (q : Option Request).
    TurnedByLine (keeps c.args.self.now.session) (keeps c.respond.new.self) c.respond.result q)
    (line-asks c.args.line.now c.cut_cr-line.result.now (search rules) c.cut_cr-line.ensures
    (search rules)) c.respond.ensures.turned
