use Rattle.std.proofs.Common.{◌≡◌, take}
use Rattle.lq_value_pattern.proofs.copying.copy_elements.Given as goal

abbrev pub invariant-loop-element : goal.invariant-loop-element
invariant-loop-element l = l.copies.items ≡ take l.element-index l.elements
