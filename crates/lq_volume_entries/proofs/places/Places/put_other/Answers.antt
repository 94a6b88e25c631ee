use Rattle.std.proofs.Common.{arith}
use Rattle.std.proofs.lemmas.Grind.{common_steps}
use Rattle.std.proofs.lemmas.Bool.Decides.{nat_tests}
use Rattle.std.proofs.lemmas.Map.Text.{is_eq-slice_cmp}
use Rattle.lq_volume_entries.proofs.places.Places.put_other.Goals as goal

pub returns-in_ok-insert-clause-ok : goal.returns-in_ok-insert-clause-ok
returns-in_ok-insert-clause-ok c = record {
  first = λ d h. grind (arith, common_steps, nat_tests);
  others = λ d n.
      let put = c.in_ok-insert.ensures.updates.0 n in
      grind (arith, common_steps, is_eq-slice_cmp c.args.name n);
}

pub returns-in_default-clause-ok : goal.returns-in_default-clause-ok
returns-in_default-clause-ok c =
    let clash = rw (← c.in_default.ensures.value) at c.requires in absurd cc
