use Rattle.std.proofs.Common.{◌≡◌, ◌∙◌, Some}
use Rattle.lq_server_slots.proofs.ReadLemmas.{hand_next, next_fits, next_reads, still_live, next_step}
use Rattle.lq_server_slots.proofs.reading.Reading.read_hand.Goals as goal

pub keep-requires-clause-fits : goal.keep-requires-clause-fits
keep-requires-clause-fits c =
    let there : c.self.inside.hand ≡ Some c.in-Some.message = cc in
    next_fits _ _ _ (hand_next _ c.in-Some.message c.self.invariant.0 there)
    c.rebuilds_take_all.ensures

pub invariant_of-self : goal.invariant_of-self
invariant_of-self c =
    let i = c.self.inside in
    let k = c.keep in
    let there : i.hand ≡ Some c.in-Some.message = cc in
    let next = hand_next _ c.in-Some.message c.self.invariant.0 there in (
      next_reads _ _ _ next k.new.rebuild k.new.hand k.result k.ensures.ok k.ensures.err,
      c.self.invariant.1 ∙ still_live _ _ _ next,
      c.self.invariant.2,
    )

pub returns : goal.returns
returns c = λ w.
    let k = c.keep in
    let there : c.self.inside.hand ≡ Some c.in-Some.message = cc in
    rw (← c.self.view_is)
    (next_step _ _ _ (hand_next _ c.in-Some.message c.self.invariant.0 there) w
    k.new.rebuild k.new.hand k.result k.ensures.refused k.ensures.ok k.ensures.err k.ensures.read)
