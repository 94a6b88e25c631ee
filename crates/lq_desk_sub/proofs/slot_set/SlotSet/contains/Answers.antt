use Rattle.std.proofs.Common.{◌∙◌, ap, sym, ◌/◌, ◌^◌}
use Rattle.std.specs.Prelude.{◌==◌, bit_and}
use Rattle.std.proofs.lemmas.Nat.Bits.{shr_and_one}
use Rattle.lq_desk_sub.proofs.SlotSetLemmas.{has-is}
use Rattle.lq_desk_sub.proofs.slot_set.SlotSet.contains.Goals as goal

pub returns : goal.returns
returns c =
    ap (λ p. bit_and (c.args.self.word / 2 ^ p) 1 == 1) c.index.ensures.value
    ∙ (ap (λ n. n == 1) (shr_and_one c.args.self.word c.args.slot.index)
    ∙ sym (has-is c.args.self.word c.args.slot.index c.args.slot.within))
