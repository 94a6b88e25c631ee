use Rattle.std.proofs.Common.{◌≡◌, ◌∙◌, ◌+◌, ◌-◌, suc, ap, arith, sym}
use Rattle.lq_desk.specs.Slot.{PreparedSlot, slot_of}
use Rattle.lq_desk.proofs.PutLemmas.{put-did, puts-quiet}
use Rattle.lq_desk.proofs.slot.Slot.fill.Goals as goal

pub loop-init : goal.loop-init
loop-init c =
    let all : c.args.self.now.port - 0 ≡ c.args.self.now.port = omega arith in
    record { rest = rw all }

pub loop-preserved : goal.loop-preserved
loop-preserved c =
    let port = ap (λ (p : PreparedSlot). p.port) c.self.view_is in
    let n = c.args.self.now.port in
    let left : n - c.loop.counter ≡ suc (n - (c.loop.counter + 1)) =
    omega (arith, c.loop-test.true, port) in
    let one = (put-did (slot_of c.loop.self) (slot_of c.put.new.self) c.put.result
    c.put.ensures).0 in
    record { rest = rw one (rw left at c.loop.invariant.rest) }

pub returns-then-not-put : goal.returns-then-not-put
returns-then-not-put c =
    let n = c.args.self.now.port in
    let did = put-did (slot_of c.loop.self) (slot_of c.put.new.self) c.put.result c.put.ensures in
    let still = sym did.1 ∙ c.if-not-put.true in
    did.0 ∙ (puts-quiet 1 _ still
    ∙ (sym (puts-quiet (n - c.loop.counter) _ still) ∙ c.loop.invariant.rest))

pub returns : goal.returns
returns c =
    let port = ap (λ (p : PreparedSlot). p.port) c.self.view_is in
    let none : c.args.self.now.port - c.loop.counter ≡ 0 =
    omega (arith, c.loop-test.false, port) in
    rw none at c.loop.invariant.rest
