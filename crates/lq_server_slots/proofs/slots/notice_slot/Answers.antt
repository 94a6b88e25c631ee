use Rattle.std.proofs.Common.{arith, rules, ap, refl, ◌+◌}
use Rattle.lq_server_slots.proofs.TurnLemmas.{notice_known}
use Rattle.std.proofs.lemmas.Bool.{lt-ltb, ltb-true}
use Rattle.lq_board.specs.Slot.{slot_at}
use Rattle.lq_board.specs.Token.{KeeperToken}
use Rattle.lq_server_slots.specs.declared.identity.Identity.{Identity}
use Rattle.lq_server_slots.proofs.SlotLemmas.{taken_noticed}
use Rattle.lq_server_slots.proofs.CommitLemmas.{noticed_then}
use Rattle.lq_server_slots.proofs.TableLemmas.{counted_here, only_set}
use Rattle.lq_server_slots.proofs.MarkLemmas.{noticed_covers}
use Rattle.lq_server_slots.proofs.slots.notice_slot.Goals as goal

pub returns-clause-keeper : goal.returns-clause-keeper
returns-clause-keeper c = search (rules, arith, only_set)

pub returns-clause-taken : goal.returns-clause-taken
returns-clause-taken c = search (rules, arith, counted_here, ltb-true, taken_noticed)

pub returns-clause-noticed : goal.returns-clause-noticed
returns-clause-noticed c = search (rules, arith, lt-ltb, noticed_then)

pub returns-clause-mark : goal.returns-clause-mark
returns-clause-mark c =
    noticed_covers _ c.args.number c.args.slot.now.sub.held c.notice.new.slot.sub.held
    c.notice.ensures.held

pub returns-clause-heard : goal.returns-clause-heard
returns-clause-heard c = search (rules, arith, counted_here)

pub returns-clause-shown : goal.returns-clause-shown
returns-clause-shown c =
    let k = c.args.index.index + 1 in
    let q = counted_here c.args.keeper.now.slots k c.asks-asks.result
    (omega (arith, c.args.index.within, c.requires.known)) in
    let slots = ap (λ (x : KeeperToken Identity). x.slots) c.asks-asks.ensures.keeper in
    notice_known _ _ (slot_at c.asks-asks.new.keeper.slots k) _ _ _ c.requires.taken.stands
    c.requires.number (rw (slots, c.number.ensures, q) refl) c.notice.ensures.held
    c.notice.ensures.others
