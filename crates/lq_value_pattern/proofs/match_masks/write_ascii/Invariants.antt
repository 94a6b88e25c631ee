use Rattle.std.proofs.Common.{◌≡◌, ◌<◌, ℕ, slice_index}
use Rattle.lq_value_pattern.proofs.match_masks.write_ascii.Given as goal

-- the characters up to here are in order
abbrev pub invariant-loop-x : goal.invariant-loop-x
invariant-loop-x l = (k : ℕ) → k < l.x → slice_index l.chars k ≡ k
