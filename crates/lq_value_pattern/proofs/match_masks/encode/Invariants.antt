use Rattle.std.proofs.Common.{◌≡◌, ◌≤◌, ◌<◌, ◌+◌, ℕ, slice_index}
use Rattle.lq_value_pattern.specs.Masks.{IsAscii}
use Rattle.lq_value_pattern.proofs.match_masks.encode.Given as goal

-- the characters up to here have codes
abbrev pub invariant-loop-i : goal.invariant-loop-i
invariant-loop-i l = record {
  low : 128 ≤ l.count;
  room : l.count ≤ 128 + l.i;
  ascii : IsAscii l.chars;
  apart : (x : ℕ) → 128 ≤ x → x < l.count → 128 ≤ slice_index l.chars x;
  coded : (k : ℕ) → k < l.i → (slice_index l.codes k < l.count)
      × (slice_index l.chars (slice_index l.codes k) ≡ slice_index l.text k);
}
