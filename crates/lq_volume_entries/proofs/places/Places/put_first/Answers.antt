use Rattle.std.proofs.Common.{arith}
use Rattle.std.proofs.lemmas.Grind.{common_steps}
use Rattle.std.proofs.lemmas.Bool.Decides.{nat_tests}
use Rattle.lq_volume_entries.proofs.places.Places.put_first.Goals as goal

pub returns-in_ok-insert-in-Some-clause-ok : goal.returns-in_ok-insert-in-Some-clause-ok
returns-in_ok-insert-in-Some-clause-ok c = record {
  first = λ d h. grind (arith, common_steps, nat_tests, c.in_ok-insert-in-Some.ensures.updates.0 h);
  others = λ d n. grind (arith, common_steps, nat_tests);
}

pub returns-in-None-clause-there : goal.returns-in-None-clause-there
returns-in-None-clause-there c =
    let clash = rw (← c.in-None.ensures.value) at c.requires in absurd cc

pub returns-in-None-clause-ok : goal.returns-in-None-clause-ok
returns-in-None-clause-ok c =
    let clash = rw (← c.in-None.ensures.value) at c.requires in absurd cc
