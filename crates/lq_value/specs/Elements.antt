-- The elements that a borrowed view of a pattern shows.
use Rattle.std.specs.Prelude.{List}
use Rattle.std.specs.Str.{chars}
use Rattle.lq_value_pattern.specs.declared.element.Element.{Element}
use Rattle.lq_value.specs.declared.pattern.Elements.{Elements}
use Rattle.lq_value.specs.declared.pattern.Elements.TheVariants as shown
use Rattle.lq_value_pattern.specs.Pattern.{plain_elements}

abbrev pub elements_shown : Elements → List Element
elements_shown (shown.Text text) = plain_elements (chars text.now)
elements_shown (shown.List elements) = elements.now
