use Rattle.std.proofs.Common.{◌≡◌, length, chars}
use Rattle.lq_value_pattern.specs.Pattern.{is_fit, some_rest}
use Rattle.lq_value_pattern.proofs.matching.find.Given as goal

-- what fits at some place fits from here on
abbrev pub invariant-loop-found : goal.invariant-loop-found
invariant-loop-found l = record {
  elements : l.here.elements.now ≡ l.fn.start.elements.now;
  later : some_rest (is_fit l.fn.start.elements.now) (chars l.fn.start.text.now)
      ≡ some_rest (is_fit l.fn.start.elements.now) (chars l.here.text.now);
}

abbrev pub decreases-loop-found : goal.decreases-loop-found
decreases-loop-found l = length (chars l.here.text.now)
