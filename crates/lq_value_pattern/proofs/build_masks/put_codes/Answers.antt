use Rattle.std.proofs.Common.{arith, inl, inr}
use Rattle.std.proofs.lemmas.Bool.{cases_lt}
use Rattle.lq_value_pattern.proofs.build_masks.put_codes.Goals as goal

pub returns-clause-above : goal.returns-clause-above
returns-clause-above c = λ x le. elim (cases_lt x c.loop-code.code) [
  | inl near ↦
      let end = c.loop-code.invariant.end (omega arith) in
      c.loop-code.invariant.below x (omega (arith, end))
  | inr above ↦ c.loop-code.invariant.left x above
]
