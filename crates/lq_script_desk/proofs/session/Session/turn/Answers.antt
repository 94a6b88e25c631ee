use Rattle.std.proofs.Common.{rules}
use Rattle.lq_script_desk.proofs.session.Session.turn.Goals as goal

pub returns : goal.returns
returns c = record {
  run = c.turn-reply.ensures.run;
  outcome = c.turn-reply.ensures.outcome;
  folds = search rules;
}
