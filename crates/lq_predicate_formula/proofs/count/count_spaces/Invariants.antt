use Rattle.std.proofs.Common.{length, drop, get_or, pred, ◌-◌, ◌≡◌, ◌≤◌, ◌<◌, ◌+◌}
use Rattle.lq_predicate_formula.specs.Lexing.{spaces}
use Rattle.lq_predicate_formula.proofs.count.count_spaces.Given as goal

abbrev pub invariant-loop-n : goal.invariant-loop-n
invariant-loop-n l = record {
  bound : l.n ≤ length l.bytes;
  so_far : l.n + spaces (drop l.n l.bytes) ≡ spaces l.bytes;
  last : 0 < l.n → get_or l.bytes (pred l.n) 0 < 128;
}

abbrev pub decreases-loop-n : goal.decreases-loop-n
decreases-loop-n l = length l.bytes - l.n
