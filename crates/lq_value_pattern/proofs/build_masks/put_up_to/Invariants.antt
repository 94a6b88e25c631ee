use Rattle.std.proofs.Common.{◌≡◌, ◌≤◌, ◌<◌, ℕ, nat_le, slice_index}
use Rattle.lq_value_pattern.specs.Masks.{IsPut}
use Rattle.lq_value_pattern.proofs.build_masks.put_up_to.Given as goal

-- the bits up to here are put or stay, and the other masks are as they were
abbrev pub invariant-loop-i : goal.invariant-loop-i
invariant-loop-i l = record {
  done : (x : ℕ) → 128 ≤ x → x < l.i
      → IsPut (nat_le (slice_index l.chars x) l.last) l.j
      (slice_index l.fn.masks x) (slice_index l.masks x);
  low : (x : ℕ) → x < 128 → slice_index l.masks x ≡ slice_index l.fn.masks x;
  left : (x : ℕ) → l.i ≤ x → slice_index l.masks x ≡ slice_index l.fn.masks x;
}
