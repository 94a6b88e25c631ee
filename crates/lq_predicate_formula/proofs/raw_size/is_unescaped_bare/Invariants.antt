use Rattle.std.proofs.Common.{◌≡◌, ◌≤◌, ◌-◌, drop, false, length}
use Rattle.std.specs.List.{list_all}
use Rattle.lq_predicate_formula.specs.Canonical.{is_bare_byte}
use Rattle.lq_predicate_formula.specs.Literals.{unescaped}
use Rattle.lq_predicate_formula.proofs.raw_size.is_unescaped_bare.Given as goal

abbrev pub invariant-loop-byte : goal.invariant-loop-byte
invariant-loop-byte l =
    (l.at ≤ length l.bytes) × (list_all is_bare_byte (unescaped false (drop l.at l.bytes))
    ≡ list_all is_bare_byte (unescaped false l.bytes))

abbrev pub decreases-loop-byte : goal.decreases-loop-byte
decreases-loop-byte l = length l.bytes - l.at
