-- The next entries of a result, several at once.
use Rattle.std.specs.Prelude.{◌≡◌, ℕ, List, [], ◌∷◌, length, drop, min}
use Rattle.lq_value.specs.declared.entry.Entry.{Entry}
use Rattle.lq_volume.specs.State as volume
use Rattle.lq_embed.specs.declared.out_structs.RowOut.{RowOut}
use Rattle.lq_embed.specs.Outs.{row_after}
use Rattle.lq_embed.specs.SessionState.{SessionState, volume_in, with_entries}

-- each entry in the next place, as far as there are entries and places
abbrev pub rows_after : volume.State → List Entry → List RowOut → List RowOut
rows_after s [] rows = rows
rows_after s (entry ∷ entries) [] = []
rows_after s (entry ∷ entries) (row ∷ rows) =
    row_after s entry row ∷ rows_after s entries rows

-- the next entries of a result are given, to each place one
pub record TakesRows (old new : SessionState) (got : ℕ) (before after : List RowOut) : Type 0 where
  pub count : got ≡ min (length before) (length old.entries)
  pub rows : after ≡ rows_after (volume_in old) old.entries before
  pub left : new ≡ with_entries old (drop (length before) old.entries)
