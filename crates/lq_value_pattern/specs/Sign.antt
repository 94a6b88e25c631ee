-- The signs of a pattern's source: its characters, each with the `\` before it if there is one.
use Rattle.std.specs.Prelude.{ℕ, List, [], ◌∷◌, Bool, true, false, ◌+◌, ◌==◌, if◌then◌else◌}
use Rattle.std.specs.Char.{len_utf8}
use Rattle.std.specs.Str.{chars}
use Rattle.lq_value_pattern.specs.declared.sign.Sign.{Sign}
use Rattle.lq_value_pattern.specs.declared.sign.Sign.TheVariants.{Bare, Escaped, Dangling}

-- a list of signs, under a name for other crates
abbrev pub SignList : Type 0
SignList = List Sign

-- the signs of the characters; the flag says whether a `\` is just before them
abbrev pub signs : Bool → List ℕ → List Sign
signs false [] = []
signs true [] = Dangling ∷ []
signs false (c ∷ cs) = if c == 92 then signs true cs else Bare c ∷ signs false cs
signs true (c ∷ cs) = Escaped c ∷ signs false cs

abbrev pub signs_of : List ℕ → List Sign
signs_of text = signs false (chars text)

-- the number of bytes of a sign
abbrev pub sign_len : Sign → ℕ
sign_len (Bare c) = len_utf8 c
sign_len (Escaped c) = 1 + len_utf8 c
sign_len Dangling = 1

-- the number of bytes of the signs
abbrev pub signs_len : List Sign → ℕ
signs_len [] = 0
signs_len (s ∷ ss) = sign_len s + signs_len ss
