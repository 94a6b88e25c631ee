use Rattle.std.proofs.Common.{◌≡◌, ◌≤◌, ◌<◌, ℕ, true, slice_index}
use Rattle.lq_value_pattern.specs.Masks.{IsPut}
use Rattle.lq_value_pattern.proofs.build_masks.put_codes.Given as goal

-- the bits from the first code up to here are put, and the other masks are as they were
abbrev pub invariant-loop-code : goal.invariant-loop-code
invariant-loop-code l = record {
  done : (x : ℕ) → l.from ≤ x → x < l.code
      → IsPut true l.j (slice_index l.fn.masks x) (slice_index l.masks x);
  below : (x : ℕ) → x < l.from → slice_index l.masks x ≡ slice_index l.fn.masks x;
  end : l.to < l.code → l.code ≤ l.from;
  left : (x : ℕ) → l.code ≤ x → slice_index l.masks x ≡ slice_index l.fn.masks x;
}
