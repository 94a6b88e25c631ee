use Rattle.std.proofs.Common.{◌≡◌, ◌≤◌, ◌<◌, ℕ, length, slice_index}
use Rattle.std.specs.Int.{bit_at}
use Rattle.lq_value_pattern.specs.Seek.{kept}
use Rattle.lq_value_pattern.specs.Masks.{takes_at}
use Rattle.lq_value_pattern.proofs.build_masks.put_elements.Given as goal

-- the bits of the elements so far are right, and no others are put
abbrev pub invariant-loop-j : goal.invariant-loop-j
invariant-loop-j l = record {
  done : (x i : ℕ) → x < length l.chars → i < l.j → bit_at (slice_index l.masks x) i
      ≡ kept (takes_at l.elements i (slice_index l.chars x)) 1;
  left : (x i : ℕ) → x < length l.chars → l.j ≤ i → bit_at (slice_index l.masks x) i ≡ 0;
}
