-- A text that is quoted a byte at a time, in a room of just the size.
use Rattle.std.proofs.Common.{◌≡◌, ◌∙◌, ◌+◌, ◌<◌, ◌≤◌, ℕ, List, [], ◌∷◌, ◌++◌, length, take, drop, set, refl, sym, ap, arith, length-append}
use Rattle.std.proofs.lemmas.List.{drop_all, take_all, take_more_set, length-set}
use Rattle.lq_value.specs.declared.op.Op.{Op}
use Rattle.lq_embed.specs.Quoting.{escaped_for, quoted_for}

-- what is written, and what comes after it
abbrev pub Written : Op → List ℕ → ℕ → List ℕ → List ℕ → Type 0
Written o text i out all = out ++ (escaped_for o (drop i text) ++ 34 ∷ []) ≡ all

-- what comes after the first mark has room
pub written_room : (o : Op) (text out : List ℕ) → length out ≡ length (quoted_for o text)
    → 1 + length (escaped_for o text) + 1 ≡ length (set out 0 34)
written_room o text out size =
    omega (arith, size, length-append (escaped_for o text) (34 ∷ []), length-set out 0 34)

-- the first mark
pub written_first : (o : Op) (text out : List ℕ) → length out ≡ length (quoted_for o text)
    → take 1 (set out 0 34) ++ (escaped_for o text ++ 34 ∷ []) ≡ quoted_for o text
written_first o text [] size = absurd (omega (arith, size))
written_first o text (b ∷ bs) size = refl

-- the last one, which fills the room
pub written_last : (o : Op) (text : List ℕ) (i : ℕ) (out all : List ℕ) (at : ℕ) → length text ≤ i
    → at + length (escaped_for o (drop i text)) + 1 ≡ length out
    → Written o text i (take at out) all → set out at 34 ≡ all
written_last o text i out all at past room was =
    let end = drop_all i text past in
    let left : length (escaped_for o (drop i text)) ≡ 0 = ap (λ l. length (escaped_for o l)) end in
    let lt : at < length out = omega (arith, room, left) in
    sym (take_all (at + 1) (set out at 34) (omega (arith, room, left, length-set out at 34)))
    ∙ (take_more_set out at 34 lt
    ∙ sym (ap (λ l. take at out ++ (escaped_for o l ++ 34 ∷ [])) end) ∙ was)
