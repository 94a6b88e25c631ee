use Rattle.lq_update.proofs.stepping.step.Goals as goal

pub returns-clause-messages : goal.returns-clause-messages
returns-clause-messages c = rw c.without_values.ensures at c.step_by.ensures.messages
