use Rattle.std.proofs.Common.{◌≡◌, ap, ◌∙◌, ◌<◌, arith}
use Rattle.std.specs.Int.{trailing_zeros, w64}
use Rattle.std.proofs.lemmas.Bool.Decides.{nat_tests}
use Rattle.lq_desk_sub.specs.SlotSet.{has}
use Rattle.lq_desk_sub.proofs.SlotSetLemmas.{has-none, has-pop_lowest}
use Rattle.lq_desk_sub.proofs.slot_set.SlotSet.is_empty.Goals as goal

pub returns-clause-empty : goal.returns-clause-empty
returns-clause-empty c is i =
    let none : c.args.self.word ≡ 0 = grind (arith, nat_tests) in
    ap (λ w. has w i) none ∙ has-none i

pub returns-clause-some : goal.returns-clause-some
returns-clause-some c is =
    let w = c.args.self.word in
    let pos : 0 < w = grind (arith, nat_tests) in
    (trailing_zeros w64 w, (has-pop_lowest w pos (omega arith)).was)
