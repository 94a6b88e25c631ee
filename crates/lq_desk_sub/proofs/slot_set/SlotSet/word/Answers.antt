use Rattle.std.proofs.Common.{inl, inr, arith}
use Rattle.std.proofs.lemmas.Bool.{cases_lt}
use Rattle.std.proofs.lemmas.Bool.Decides.{nat_tests}
use Rattle.std.proofs.lemmas.Nat.Bits.{bit_at_above}
use Rattle.lq_desk_sub.specs.SlotSet.{has}
use Rattle.lq_desk_sub.proofs.SlotSetLemmas.{has-is}
use Rattle.lq_desk_sub.proofs.slot_set.SlotSet.word.Goals as goal

pub returns : goal.returns
unfolding has
returns c i = elim (cases_lt i 64) [
  | inl lt ↦ has-is c.args.self.word i lt
  | inr ge ↦ let none = bit_at_above c.args.self.word 64 i (omega arith) ge in
      grind (arith, nat_tests)
]
