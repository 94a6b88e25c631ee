-- The whole number that a text writes: an optional `-` and 1 to 20 decimal digits, and nothing
-- else. A text is the codes of its characters or its bytes: for a text that writes a number both
-- are the same.
use Rattle.std.specs.Prelude.{ℕ, ℤ, pos, neg_ℤ, List, [], ◌∷◌, length, ◌&&◌, ◌==◌, nat_le, Option, Some, None, if◌then◌else◌}
use Rattle.std.specs.Option.{option_map}
use Rattle.std.specs.List.{list_all}
use Rattle.std.specs.Char.{is_ascii_digit}
use Rattle.std.specs.Str.Parse.{digits_value}

-- the number that digits write, where there are 1 to 20 of them and nothing else
abbrev pub digits_number : List ℕ → Option ℕ
digits_number cs =
    if nat_le 1 (length cs) && nat_le (length cs) 20 && list_all is_ascii_digit cs
    then Some (digits_value 10 cs)
    else None

-- the number with an optional `-`; leading zeros are allowed, and `-0` is 0
abbrev pub decimal_number : List ℕ → Option ℤ
decimal_number [] = None
decimal_number (c ∷ cs) =
    if c == 45
    then option_map (λ n. neg_ℤ (pos n)) (digits_number cs)
    else option_map pos (digits_number (c ∷ cs))
