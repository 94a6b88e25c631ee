use Rattle.std.proofs.Common.{◌≡◌, ◌≤◌, ◌+◌, ◌-◌, ◌^◌, drop, false, length}
use Rattle.lq_predicate_formula.specs.Canonical.{quoted}
use Rattle.lq_predicate_formula.specs.Capped.{capped}
use Rattle.lq_predicate_formula.specs.Literals.{unescaped}
use Rattle.lq_predicate_formula.proofs.raw_size.unescaped_size.Given as goal

abbrev pub invariant-loop-byte : goal.invariant-loop-byte
invariant-loop-byte l = record {
  within : l.at ≤ length l.bytes;
  small : l.size ≤ 2 ^ 64 - 1;
  so_far : capped (l.size + length (quoted (unescaped false (drop l.at l.bytes))))
      ≡ capped (length (quoted (unescaped false l.bytes)));
}

abbrev pub decreases-loop-byte : goal.decreases-loop-byte
decreases-loop-byte l = length l.bytes - l.at
