-- A loop that writes the next entries of a result into places.
use Rattle.std.proofs.Common.{◌≡◌, ◌∙◌, ◌+◌, ◌≤◌, ◌<◌, ℕ, zero, suc, List, [], ◌∷◌, length, get_or, take, drop, set, refl, sym, ap, subst, add-one, arith, true}
use Rattle.lq_value.specs.declared.entry.Entry.{Entry}
use Rattle.lq_volume.specs.State as volume
use Rattle.lq_embed.specs.declared.out_structs.RowOut.{RowOut}
use Rattle.lq_embed.specs.Calls.{GivesRow}
use Rattle.lq_embed.specs.Outs.{row_after}
use Rattle.lq_embed.specs.Rows.{TakesRows, rows_after}
use Rattle.lq_embed.specs.SessionState.{SessionState, volume_in, with_entries}

-- what is left after one more of a list that isn't at its end
left-next : {A : Type 0} (i : ℕ) (xs : List A) (x : A) (rest : List A) → drop i xs ≡ x ∷ rest
    → drop (suc i) xs ≡ rest
left-next zero [] x rest is = absurd (let no : ⊥ = cc in no)
left-next zero (y ∷ xs) x rest is = ap (drop 1) is
left-next (suc i) [] x rest is = absurd (let no : ⊥ = cc in no)
left-next (suc i) (y ∷ xs) x rest is = left-next i xs x rest is

-- a list of which something is left is longer than what was taken
left-within : {A : Type 0} (i : ℕ) (xs : List A) (x : A) (rest : List A) → drop i xs ≡ x ∷ rest
    → suc i ≤ length xs
left-within zero [] x rest is = absurd (let no : ⊥ = cc in no)
left-within zero (y ∷ xs) x rest is = omega arith
left-within (suc i) [] x rest is = absurd (let no : ⊥ = cc in no)
left-within (suc i) (y ∷ xs) x rest is = omega (arith, left-within i xs x rest is)

-- a place that the loop hasn't come to is as it was
row-waits : (s : volume.State) (i : ℕ) (es : List Entry) (rows : List RowOut) (d : RowOut)
    → get_or (rows_after s (take i es) rows) i d ≡ get_or rows i d
row-waits s zero es rows d = refl
row-waits s (suc i) [] rows d = refl
row-waits s (suc i) (e ∷ es) [] d = refl
row-waits s (suc i) (e ∷ es) (row ∷ rows) d = row-waits s i es rows d

-- one more entry, in the next place
row-next : (s : volume.State) (i : ℕ) (es : List Entry) (rows : List RowOut) (d : RowOut)
    (e : Entry) (rest : List Entry) → drop i es ≡ e ∷ rest → i < length rows
    → set (rows_after s (take i es) rows) i (row_after s e (get_or rows i d))
    ≡ rows_after s (take (suc i) es) rows
row-next s zero [] rows d e rest is lt = absurd (let no : ⊥ = cc in no)
row-next s zero (x ∷ es) [] d e rest is lt = absurd (omega arith)
row-next s zero (x ∷ es) (row ∷ rows) d e rest is lt =
    let same : e ≡ x = ap (λ ys. get_or ys 0 x) (sym is) in
    ap (λ (y : Entry). row_after s y row ∷ rows) same
row-next s (suc i) [] rows d e rest is lt = absurd (let no : ⊥ = cc in no)
row-next s (suc i) (x ∷ es) [] d e rest is lt = absurd (omega arith)
row-next s (suc i) (x ∷ es) (row ∷ rows) d e rest is lt =
    ap (λ ys. row_after s x row ∷ ys) (row-next s i es rows d e rest is (omega arith))

-- where there are no more places, the entries left change nothing
pub rows-full : (s : volume.State) (i : ℕ) (es : List Entry) (rows : List RowOut)
    → length rows ≤ i → rows_after s (take i es) rows ≡ rows_after s es rows
rows-full s zero [] [] le = refl
rows-full s zero (e ∷ es) [] le = refl
rows-full s zero es (row ∷ rows) le = absurd (omega arith)
rows-full s (suc i) [] rows le = refl
rows-full s (suc i) (e ∷ es) [] le = refl
rows-full s (suc i) (e ∷ es) (row ∷ rows) le =
    ap (λ ys. row_after s e row ∷ ys) (rows-full s i es rows (omega arith))

-- how far the loop has come: each place before this one has its entry
pub record AreGiven (first now : SessionState) (i : ℕ) (before places : List RowOut)
    : Type 0 where
  pub within : i ≤ length first.entries
  pub rows : places ≡ rows_after (volume_in first) (take i first.entries) before
  pub state : now ≡ with_entries first (drop i first.entries)

-- one more
pub given-next : {first now new : SessionState} {i : ℕ} {before places : List RowOut}
    {place : RowOut}
    (d row : RowOut) → AreGiven first now i before places → i < length before
    → place ≡ get_or places i d → GivesRow now new true place row now.entries
    → AreGiven first new (i + 1) before (set places i row)
given-next {first = first} {now = now} {new = new} {i = i} {before = before} {places = places}
    {place = place} d row was lt at gives =
    from (drop i first.entries) refl
    (subst (λ (s : SessionState). GivesRow s new true place row s.entries) was.state gives)
  where
    from : (left : List Entry) → drop i first.entries ≡ left
        → GivesRow (with_entries first (drop i first.entries)) new true place row left
        → AreGiven first new (i + 1) before (set places i row)
    from [] is there = absurd (let no : ⊥ = cc in no)
    from (e ∷ rest) is there =
        let old : get_or before i d ≡ place =
        sym (row-waits (volume_in first) i first.entries before d)
        ∙ (ap (λ ys. get_or ys i d) (sym was.rows) ∙ sym at) in
        record {
          within = omega (arith, left-within i first.entries e rest is);
          rows = rw add-one (ap (λ ys. set ys i row) was.rows
              ∙ (ap (set (rows_after (volume_in first) (take i first.entries) before) i)
              (there.2 ∙ ap (row_after (volume_in first) e) (sym old))
              ∙ row-next (volume_in first) i first.entries before d e rest is lt));
          state = rw add-one (there.1
              ∙ ap (with_entries first) (sym (left-next i first.entries e rest is)));
        }

-- where no place is left
pub given-full : {first now : SessionState} {i got : ℕ} {before places : List RowOut}
    → AreGiven first now i before places → i ≡ length before → got ≡ i
    → TakesRows first now got before places
given-full {first = first} {i = i} {before = before} was all count = record {
  count = omega (arith, was.within, all, count);
  rows = was.rows ∙ rows-full (volume_in first) i first.entries before (omega (arith, all));
  left = was.state ∙ ap (λ n. with_entries first (drop n first.entries)) all;
}
