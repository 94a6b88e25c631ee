use Rattle.std.proofs.Common.{◌∙◌, ap, sym, map, Option}
use Rattle.std.specs.Option.{option_flatten}
use Rattle.lq_desk.specs.Ready.{has_parcel}
use Rattle.lq_desk.specs.Slot.{KeptSlot, passes}
use Rattle.lq_desk.proofs.ParcelLemmas.{asked-all, asked-free, asked-more, asked-none}
use Rattle.lq_desk.proofs.SlotsLemmas.{kept-there, kept_slot}
use Rattle.lq_desk.proofs.desk_slots.Slots.readable_slots.Goals as goal

pub loop-slot-init : goal.loop-slot-init
loop-slot-init c = record {
  asked = rw (← c.self.view_is) (asked-none c.self.inside.table c.taken-rest.result.word
      c.new-readable.result.word c.taken-rest.ensures.taken c.new-readable.ensures);
}

pub loop-slot-preserved-in-Some-get : goal.loop-slot-preserved-in-Some-get
loop-slot-preserved-in-Some-get c =
    let l = c.loop-slot in
    let xs = c.self.inside.table in
    let i = c.in-Some.slot.index in
    let there = ap (λ (o : Option (Option KeptSlot)). passes has_parcel (option_flatten o))
    (kept-there xs i c.in-Some-get.there.now c.in-Some-get.ensures) in
    record {
      asked = rw (← c.self.view_is) (asked-more (map kept_slot xs) l.rest.word
          c.pop_lowest.new.self.word l.readable.word c.put.new.self.word i c.in-Some.ensures
          (c.put.ensures.here ∙ (c.has_parcel.ensures ∙ sym there)) c.put.ensures.others
          (rw (← c.self.view_is) at l.invariant.asked));
    }

pub loop-slot-preserved : goal.loop-slot-preserved
loop-slot-preserved c =
    let l = c.loop-slot in
    record {
      asked = rw (← c.self.view_is) (asked-free c.self.inside.table l.rest.word
          c.pop_lowest.new.self.word l.readable.word c.in-Some.slot.index c.in-Some.ensures
          c.in_default-get.ensures (rw (← c.self.view_is) at l.invariant.asked));
    }

pub returns : goal.returns
returns c = asked-all (map kept_slot c.args.self.now) c.loop-slot.rest.word
    c.loop-slot.readable.word c.word.result c.in_default.ensures c.word.ensures
    c.loop-slot.invariant.asked
