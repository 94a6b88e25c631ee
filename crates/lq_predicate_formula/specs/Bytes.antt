-- Which bytes are white space, and which end a word.
use Rattle.std.specs.Prelude.{ℕ, ◌==◌, ◌||◌, Bool}

-- a blank, a tab, LF or CR
abbrev pub is_space : ℕ → Bool
is_space b = b == 32 || b == 9 || b == 10 || b == 13

-- white space or one of ( ) ! & | = < > " '
abbrev pub ends_word : ℕ → Bool
ends_word b = is_space b || b == 40 || b == 41 || b == 33 || b == 38 || b == 124
    || b == 61 || b == 60 || b == 62 || b == 34 || b == 39
