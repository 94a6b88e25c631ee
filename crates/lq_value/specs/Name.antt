-- What a name of an entry is, and what a name of an attribute is. Both are seen as their bytes.
use Rattle.std.specs.Prelude.{ℕ, List, length, Bool, not, ◌&&◌, ◌==◌, nat_le, codes}
use Rattle.std.specs.Arc.{arc_value}
use Rattle.std.specs.List.{list_all}
use Rattle.std.specs.Str.{bytes_eq}
use Rattle.lq_value.specs.declared.name_text.NameText.{NameText}
use Rattle.lq_value.specs.declared.name_text.NameText.TheVariants.{Short, Shared}

-- neither NUL nor `/`
abbrev pub is_name_byte : ℕ → Bool
is_name_byte b = not (b == 47) && not (b == 0)

-- 1 to 255 bytes without `/` and NUL, and neither `.` nor `..`
abbrev pub is_name : List ℕ → Bool
is_name bytes =
    not (length bytes == 0) && nat_le (length bytes) 255 && not (bytes_eq bytes (codes "."))
    && not (bytes_eq bytes (codes ".."))
    && list_all is_name_byte bytes

-- 1 to 255 bytes without NUL
abbrev pub is_attr_name : List ℕ → Bool
is_attr_name bytes =
    not (length bytes == 0) && nat_le (length bytes) 255 && list_all (λ b. not (b == 0)) bytes

-- the bytes of an entry's name, whose text a longer name shares with its copies
abbrev pub name_text_bytes : NameText → List ℕ
name_text_bytes (Short text) = text
name_text_bytes (Shared text) = arc_value text
