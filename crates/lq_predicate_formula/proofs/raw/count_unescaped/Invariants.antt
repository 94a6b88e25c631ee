use Rattle.std.proofs.Common.{◌≡◌, ◌≤◌, ◌+◌, ◌-◌, drop, false, length}
use Rattle.lq_predicate_formula.specs.Literals.{has_no_nul, unescaped}
use Rattle.lq_predicate_formula.proofs.raw.count_unescaped.Given as goal

abbrev pub invariant-loop-byte : goal.invariant-loop-byte
invariant-loop-byte l = record {
  within : l.at ≤ length l.bytes;
  small : l.count ≤ l.at;
  size : l.count + length (unescaped false (drop l.at l.bytes)) ≡ length (unescaped false l.bytes);
  clean : has_no_nul (unescaped false (drop l.at l.bytes)) ≡ has_no_nul (unescaped false l.bytes);
}

abbrev pub decreases-loop-byte : goal.decreases-loop-byte
decreases-loop-byte l = length l.bytes - l.at
