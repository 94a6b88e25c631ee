-- A text with another one as its prefix.
use Rattle.std.specs.Prelude.{◌≡◌, ℕ, List, ◌++◌}

-- the new text is the old one with more text after it
pub record AppendsTo (new old : List ℕ) : Type 0 where
  pub rest : List ℕ
  pub split : new ≡ old ++ rest
