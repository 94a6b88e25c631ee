-- Laws on the sources of patterns and on when a pattern fits.
use Rattle.std.specs.Prelude.{◌≡◌, ◌↔◌, ◌<◌, ℕ, List, length, Ok, Err, IsTrue}
use Rattle.std.specs.Str.{IsUtf8}
use Rattle.lq_value_pattern.specs.declared.element.Element.{Element}
use Rattle.lq_value_pattern.specs.declared.sign.Sign.{Sign}
use Rattle.lq_value_pattern.specs.Sign.{signs_of, signs_len}
use Rattle.lq_value_pattern.specs.Source.{First, has, after_first, element_at, item_at, pattern_of, pieces_of}
use Rattle.lq_value_pattern.specs.Written.{HasFaultAt, Writes}
use Rattle.lq_value_pattern.specs.Pattern.{Fits, is_fit}

-- a text is the source of exactly the elements that it writes
abbrev pub SourcesAreRead : Type 0
SourcesAreRead =
    (text : List ℕ) (es : List Element) → (pattern_of text ≡ Ok es) ↔ Writes (signs_of text) es

-- a text has a fault exactly where the elements before it end and no element is written
abbrev pub FaultsAreFound : Type 0
FaultsAreFound = (text : List ℕ) (offset : ℕ) → IsUtf8 text
    → (pattern_of text ≡ Err offset) ↔ HasFaultAt text offset

-- The pieces of signs are the first piece and then those of the signs after it, which are fewer.
pub record AreWalked {A : Type 0} (first : List Sign → First A) : Type 0 where
  pub step : (ss : List Sign) → pieces_of first ss ≡ after_first ss (first ss) (pieces_of first)
  pub fewer : (ss : List Sign) (x : A) (rest : List Sign) → first ss ≡ has x rest
      → length rest < length ss

-- elements and items are read one piece at a time, and the signs of a text have its bytes
pub record SourcesAreWalked : Type 0 where
  pub elements : AreWalked element_at
  pub items : AreWalked item_at
  pub bytes : (text : List ℕ) → IsUtf8 text → signs_len (signs_of text) ≡ length text

-- the test is true exactly where some split of the text has each part fit its element
abbrev pub FitsAreSplits : Type 0
FitsAreSplits = (es : List Element) (cs : List ℕ) → IsTrue (is_fit es cs) ↔ Fits es cs
