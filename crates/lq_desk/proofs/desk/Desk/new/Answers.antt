use Rattle.std.proofs.Common.{rules}
use Rattle.lq_desk.proofs.desk.Desk.new.Goals as goal

pub invariant_of-result : goal.invariant_of-result
invariant_of-result c = rw c.start-witness.ensures record {
  fair = c.first_worlds_are_fair.ensures _;
  kept = search rules;
}
