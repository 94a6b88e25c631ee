use Rattle.std.proofs.Common.{◌≡◌, length}
use Rattle.lq_value_pattern.specs.Matching.{IsAtStar}
use Rattle.lq_value_pattern.specs.Pattern.{is_fit}
use Rattle.lq_value_pattern.proofs.long.fits_chars.Given as goal

-- what is left decides, and begins with a star
abbrev pub invariant-loop-after : goal.invariant-loop-after
invariant-loop-after l = record {
  star : IsAtStar l.left.elements.now;
  same : is_fit l.left.elements.now l.left.text.now
      ≡ is_fit l.fn.start.elements.now l.fn.start.text.now;
}

abbrev pub decreases-loop-after : goal.decreases-loop-after
decreases-loop-after l = length l.left.elements.now
