use Rattle.std.proofs.Common.{rules}
use Rattle.lq_desk.specs.Reply.{answer_of}
use Rattle.lq_script_desk.proofs.SessionLemmas.{answer-own, ok-any}
use Rattle.lq_script_desk.proofs.session.Session.write_answer.Goals.{in-Refused+in-BadName-1, in-Changed-2}
use Rattle.lq_script_desk.proofs.session.Session.write_answer.Goals as goal

pub returns-in-Refused-NoMemory-clause-turned : goal.returns-in-Refused-NoMemory-clause-turned
returns-in-Refused-NoMemory-clause-turned c = (
  answer_of c.turn-reply.result,
  record {
    run = c.turn-reply.ensures.run;
    outcome = c.turn-reply.ensures.outcome;
    folds = search rules;
  },
  tt,
)

pub returns-then-is_err-clause-turned : goal.returns-then-is_err-clause-turned
returns-then-is_err-clause-turned c = (
  answer_of c.turn-reply.result,
  record {
    run = c.turn-reply.ensures.run;
    outcome = c.turn-reply.ensures.outcome;
    folds = search rules;
  },
  search rules,
)

pub returns-clause-turned : goal.returns-clause-turned
returns-clause-turned c = (
  answer_of c.turn-reply.result,
  record {
    run = c.turn-reply.ensures.run;
    outcome = c.turn-reply.ensures.outcome;
    folds = search rules;
  },
  ok-any c.put_event_reply.result _ (elim c.match-reply.branch [
    | in-Refused+in-BadName-1 w ↦
        answer-own _ _ _ _ c.turn-reply.ensures.outcome (λ bad. grind (rules, bad))
    | in-Changed-2 w ↦
        answer-own _ _ _ _ c.turn-reply.ensures.outcome (λ bad. grind (rules, bad))
  ]),
)
