use Rattle.std.proofs.Common.{length, drop, ◌-◌, ◌≡◌, ◌≤◌, ◌+◌}
use Rattle.lq_embed.specs.PathNames.{name_length}
use Rattle.lq_embed.proofs.find_path.count_name.Given as goal

abbrev pub invariant-loop-n : goal.invariant-loop-n
invariant-loop-n l = record {
  bound : l.n ≤ length l.path;
  so_far : l.n + name_length (drop l.n l.path) ≡ name_length l.path;
}

abbrev pub decreases-loop-n : goal.decreases-loop-n
decreases-loop-n l = length l.path - l.n
