-- What the code finds first in a source, in terms of the definitions.
use Rattle.std.specs.Prelude.{[]}
use Rattle.std.specs.Str.{IsUtf8}
use Rattle.lq_value_pattern.specs.declared.element.Element.{Element}
use Rattle.lq_value_pattern.specs.declared.element.Element.TheVariants as element
use Rattle.lq_value_pattern.specs.declared.piece.FirstPiece.{FirstPiece}
use Rattle.lq_value_pattern.specs.declared.piece.FirstPiece.TheVariants as pieces
use Rattle.lq_value_pattern.specs.Sign.{signs_of}
use Rattle.lq_value_pattern.specs.Source.{First, ends, has, faulty, item_at, pieces_of, set_with}

abbrev pub first_of : FirstPiece → First Element
first_of pieces.End = ends []
first_of (pieces.Star rest) = has element.Star (signs_of rest.now)
first_of (pieces.Any rest) = has element.Any (signs_of rest.now)
first_of (pieces.Plain c rest) = has (element.Plain c) (signs_of rest.now)
first_of (pieces.Opens negated items) = set_with negated (pieces_of item_at (signs_of items.now))
first_of pieces.Faulty = faulty

-- the rest is a text
abbrev pub IsTextBehindPiece : FirstPiece → Type 0
IsTextBehindPiece pieces.End = Unit {0}
IsTextBehindPiece (pieces.Star rest) = IsUtf8 rest.now
IsTextBehindPiece (pieces.Any rest) = IsUtf8 rest.now
IsTextBehindPiece (pieces.Plain c rest) = IsUtf8 rest.now
IsTextBehindPiece (pieces.Opens negated items) = IsUtf8 items.now
IsTextBehindPiece pieces.Faulty = Unit {0}
