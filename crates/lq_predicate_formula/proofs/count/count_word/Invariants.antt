use Rattle.std.proofs.Common.{length, drop, false, ◌-◌, ◌≡◌, ◌≤◌, ◌+◌}
use Rattle.lq_predicate_formula.specs.Lexing.{word_bytes}
use Rattle.lq_predicate_formula.proofs.count.count_word.Given as goal

abbrev pub invariant-loop-n : goal.invariant-loop-n
invariant-loop-n l = record {
  bound : l.n ≤ length l.bytes;
  so_far : l.n + word_bytes false (drop l.n l.bytes) ≡ word_bytes false l.bytes;
}

abbrev pub decreases-loop-n : goal.decreases-loop-n
decreases-loop-n l = length l.bytes - l.n
