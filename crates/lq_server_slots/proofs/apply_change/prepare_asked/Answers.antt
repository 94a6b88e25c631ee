use Rattle.std.proofs.Common.{rules, arith}
use Rattle.lq_server_slots.proofs.TableLemmas.{slots_stay}
use Rattle.lq_server_slots.proofs.apply_change.prepare_asked.Goals as goal

pub returns : goal.returns
returns c = search (rules, arith)

pub returns-in_err-planned : goal.returns-in_err-planned
returns-in_err-planned c = search (rules, arith, slots_stay)
