-- A text that is quoted a byte at a time, each pushed.
use Rattle.std.proofs.Common.{◌≡◌, ◌∙◌, ◌≤◌, ℕ, List, [], ◌∷◌, ◌++◌, length, drop, sym, ap, append_assoc}
use Rattle.std.proofs.lemmas.List.{drop_all}
use Rattle.lq_value.specs.declared.op.Op.{Op}
use Rattle.lq_embed.specs.Quoting.{escaped_for, quoted_for}

-- what is written, and what comes after it
abbrev pub Written : Op → List ℕ → ℕ → List ℕ → List ℕ → Type 0
Written o text i out all = out ++ (escaped_for o (drop i text) ++ 34 ∷ []) ≡ all

-- the first mark
pub pushed_first : (o : Op) (text out : List ℕ)
    → (out ++ 34 ∷ []) ++ (escaped_for o text ++ 34 ∷ []) ≡ out ++ quoted_for o text
pushed_first o text out = append_assoc out (34 ∷ []) (escaped_for o text ++ 34 ∷ [])

-- the last one
pub pushed_last : (o : Op) (text : List ℕ) (i : ℕ) (out all : List ℕ) → length text ≤ i
    → Written o text i out all → out ++ 34 ∷ [] ≡ all
pushed_last o text i out all past was =
    sym (ap (λ l. out ++ (escaped_for o l ++ 34 ∷ [])) (drop_all i text past)) ∙ was
