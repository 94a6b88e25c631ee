use Rattle.std.proofs.Common.{◌≡◌, ◌≤◌, ◌<◌, ◌+◌, ℕ, length, drop, slice_index}
use Rattle.lq_value_pattern.specs.Seek.{kept, take_front}
use Rattle.lq_value_pattern.specs.Masks.{AreEnds}
use Rattle.lq_value_pattern.proofs.match_masks.match_window_ended.Given as goal

-- the ends at this character, and the flags up to here are kept or out
abbrev pub invariant-loop-i : goal.invariant-loop-i
invariant-loop-i l = record {
  small : l.ends < 4294967296;
  ends : AreEnds l.elements l.text l.i l.ends;
  done : (k : ℕ) → k + length l.elements ≤ l.i → slice_index l.flags k
      ≡ kept (take_front l.elements (drop k l.text)) (slice_index l.fn.flags k);
  left : (k : ℕ) → l.i < k + length l.elements
      → slice_index l.flags k ≡ slice_index l.fn.flags k;
}
