use Rattle.std.proofs.Common.{rules, arith}
use Rattle.lq_server_slots.proofs.SyncLemmas.{slot_met}
use Rattle.lq_server_slots.proofs.sync.refresh_slot.Goals as goal

pub returns : goal.returns
returns g c = search (rules, arith, slot_met)
