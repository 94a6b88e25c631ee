use Rattle.std.proofs.Common.{◌≡◌, ◌≤◌, ◌<◌, ℕ, slice_index}
use Rattle.lq_value_pattern.specs.Seek.{kept, item_takes}
use Rattle.lq_value_pattern.proofs.element_runs.keep_item.Given as goal

-- the flags up to here are kept or out, and the others are as they were
abbrev pub invariant-loop-i : goal.invariant-loop-i
invariant-loop-i l = record {
  done : (k : ℕ) → k < l.i → slice_index l.flags k
      ≡ kept (item_takes l.negated l.item (slice_index l.text k)) (slice_index l.fn.flags k);
  left : (k : ℕ) → l.i ≤ k → slice_index l.flags k ≡ slice_index l.fn.flags k;
}
