use Rattle.std.proofs.Common.{arith}
use Rattle.std.proofs.lemmas.Grind.{common_steps}
use Rattle.std.proofs.lemmas.Bool.Decides.{nat_tests}
use Rattle.std.proofs.lemmas.Map.Text.{is_eq-slice_cmp}
use Rattle.lq_volume_entries.proofs.places.Places.take_name.Goals as goal
use Rattle.lq_volume_entries.proofs.places.Places.take_name.Goals.{then-was_first, else-was_first}

pub returns-after-was_first-clause-takes : goal.returns-after-was_first-clause-takes
returns-after-was_first-clause-takes c = elim c.if-was_first.branch [
  | then-was_first w ↦ record {
    first = λ d h.
        let gone = w.remove.ensures.updates.0 h in
        grind (arith, common_steps, nat_tests, w.hash.ensures);
    others = λ d n.
        let gone = c.remove-in-Some.ensures.updates.0 n in
        grind (arith, common_steps, is_eq-slice_cmp c.args.name.now n);
  }
  | else-was_first w ↦ record {
    first = λ d h. grind (arith, common_steps, nat_tests);
    others = λ d n.
        let gone = c.remove-in-Some.ensures.updates.0 n in
        grind (arith, common_steps, is_eq-slice_cmp c.args.name.now n);
  }
]
