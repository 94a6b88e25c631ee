use Rattle.std.proofs.Common.{◌≡◌, ◌≤◌, ◌<◌, ℕ, slice_index}
use Rattle.lq_value_pattern.specs.Masks.{IsFlipped}
use Rattle.lq_value_pattern.proofs.build_masks.flip.Given as goal

-- the bits up to here are flipped, and the other masks are as they were
abbrev pub invariant-loop-i : goal.invariant-loop-i
invariant-loop-i l = record {
  done : (k : ℕ) → k < l.i → IsFlipped l.j (slice_index l.fn.masks k) (slice_index l.masks k);
  left : (k : ℕ) → l.i ≤ k → slice_index l.masks k ≡ slice_index l.fn.masks k;
}
