-- What the literal of a text reads as.
use Rattle.std.specs.Prelude.{◌≡◌, List, ℕ, Some, if◌then◌else◌}
use Rattle.std.specs.Str.{IsUtf8, chars}
use Rattle.lq_value.specs.Compare.{takes_pattern}
use Rattle.lq_value.specs.Pattern.{plain_elements}
use Rattle.lq_value.specs.declared.literal.Literal.{Literal}
use Rattle.lq_value.specs.declared.literal.Literal.TheVariants.{Pattern, Plain}
use Rattle.lq_value.specs.declared.op.Op.{Op}
use Rattle.lq_predicate_formula.specs.Literals.{literal_of}
use Rattle.lq_predicate_formula.specs.Tokens.{IsQuoted}
use Rattle.lq_embed.specs.Quoting.{escaped_for, quoted_for}

-- the literal that means just this text: the pattern of its characters, or the text itself
abbrev pub text_literal : Op → List ℕ → Literal
text_literal o text =
    if takes_pattern o then Pattern (plain_elements (chars text)) else Plain text

-- the literal that is written for a text is one quoted text, which reads as just this text
pub record MeansText (o : Op) (text : List ℕ) : Type 0 where
  pub quoted : IsQuoted (escaped_for o text) (quoted_for o text)
  pub literal : literal_of o (escaped_for o text) ≡ Some (text_literal o text)

-- each text of UTF-8, after each operator
abbrev pub TextsAreMeant : Type 0
TextsAreMeant = (o : Op) (text : List ℕ) → IsUtf8 text → MeansText o text
