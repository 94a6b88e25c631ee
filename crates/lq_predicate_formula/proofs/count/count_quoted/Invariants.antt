use Rattle.std.proofs.Common.{length, drop, false, ◌-◌, ◌≡◌, ◌≤◌}
use Rattle.lq_predicate_formula.specs.Lexing.{quoted_bytes}
use Rattle.lq_predicate_formula.proofs.CountLemmas.{added}
use Rattle.lq_predicate_formula.proofs.count.count_quoted.Given as goal

abbrev pub invariant-loop-n : goal.invariant-loop-n
invariant-loop-n l = record {
  bound : l.n ≤ length l.bytes;
  so_far : added l.n (quoted_bytes l.mark false (drop l.n l.bytes))
      ≡ quoted_bytes l.mark false l.bytes;
}

abbrev pub decreases-loop-n : goal.decreases-loop-n
decreases-loop-n l = length l.bytes - l.n
