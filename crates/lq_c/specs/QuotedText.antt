-- A text that is quoted into a caller's memory.
use Rattle.std.specs.Prelude.{ℕ, List, length, nat_le, if◌then◌else◌}
use Rattle.lq_value.specs.declared.op.Op.TheVariants.{Eq}
use Rattle.lq_embed.specs.Outs.{text_put}
use Rattle.lq_embed.specs.Quoting.{quoted_for}

-- the size of a text as a literal after `==`, or 0 where it has more than 4,096 bytes
abbrev pub quoted_size : List ℕ → ℕ
quoted_size text = if nat_le (length text) 4096 then length (quoted_for Eq text) else 0

-- the room after the literal was written there, if it fits
abbrev pub quoted_put : List ℕ → List ℕ → List ℕ
quoted_put text room =
    if nat_le (length text) 4096 then text_put (quoted_for Eq text) room else room
