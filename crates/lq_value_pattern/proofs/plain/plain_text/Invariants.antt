use Rattle.std.proofs.Common.{◌≡◌, take, chars, string_bytes}
use Rattle.lq_value_pattern.specs.Pattern.{plain_elements}
use Rattle.lq_value_pattern.proofs.plain.plain_text.Given as goal

-- the text of the elements so far
abbrev pub invariant-loop-element : goal.invariant-loop-element
invariant-loop-element l =
    plain_elements (chars (string_bytes l.text)) ≡ take l.element-index l.elements
