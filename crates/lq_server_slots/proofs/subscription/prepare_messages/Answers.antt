use Rattle.std.proofs.Common.{rules, arith}
use Rattle.lq_server_slots.proofs.EndLemmas.{prepared_of}
use Rattle.lq_server_slots.proofs.subscription.prepare_messages.Goals as goal

pub returns-clause-prepared : goal.returns-clause-prepared
returns-clause-prepared c = search (rules, arith, prepared_of)
