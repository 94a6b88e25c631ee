-- Reading piece by piece: what is read so far, and that no piece is missed.
use Rattle.std.proofs.Common.{◌≡◌, ◌<◌, ℕ, zero, suc, List, [], ◌∷◌, ◌++◌, length, refl, ap, arith}
use Rattle.lq_value_pattern.specs.declared.sign.Sign.{Sign}
use Rattle.lq_value_pattern.specs.Source.{First, ends, has, faulty, Pieces, whole, stuck, begin, after_first, pieces_within, pieces_of}

-- a piece has a sign at least
abbrev pub Shrinks : (A : Type 0) → (List Sign → First A) → Type 0
Shrinks A first =
    (ss : List Sign) (x : A) (rest : List Sign) → first ss ≡ has x rest → length rest < length ss

-- what goes on in the same way after the first piece gives the same pieces
after_same : (A : Type 0) (ss : List Sign) (r : First A) (f g : List Sign → Pieces A)
    → ((x : A) (rest : List Sign) → r ≡ has x rest → f rest ≡ g rest)
    → after_first ss r f ≡ after_first ss r g
after_same A ss (ends rest) f g h = refl
after_same A ss (has x rest) f g h = ap (begin x) (h x rest refl)
after_same A ss faulty f g h = refl

-- pieces before others
abbrev pub begins : {A : Type 0} → List A → Pieces A → Pieces A
begins [] p = p
begins (x ∷ xs) p = begin x (begins xs p)

-- a piece after those that have begun begins what is left
begins-push : (A : Type 0) (xs : List A) (x : A) (p : Pieces A)
    → begins (xs ++ x ∷ []) p ≡ begins xs (begin x p)
begins-push A [] x p = refl
begins-push A (y ∷ xs) x p = ap (begin y) (begins-push A xs x p)

-- pieces before an end are whole
pub begins-whole : (A : Type 0) (xs : List A) (rest : List Sign)
    → begins xs (whole [] rest) ≡ whole xs rest
begins-whole A [] rest = refl
begins-whole A (x ∷ xs) rest = ap (begin x) (begins-whole A xs rest)

-- pieces before a fault are stuck at it
pub begins-stuck : (A : Type 0) (xs : List A) (rest : List Sign)
    → begins xs (stuck rest) ≡ stuck rest
begins-stuck A [] rest = refl
begins-stuck A (x ∷ xs) rest = ap (begin x) (begins-stuck A xs rest)

-- the pieces of `start` are these and those of `left`
abbrev pub SoFar : (A : Type 0) → (List Sign → First A) → List Sign → List A → List Sign → Type 0
SoFar A first start xs left = pieces_of first start ≡ begins xs (pieces_of first left)

module _ (A : Type 0) (first : List Sign → First A) (s : Shrinks A first) where
  -- more room reads the same
  enough : (n m : ℕ) (ss : List Sign) → length ss < n → length ss < m
      → pieces_within first n ss ≡ pieces_within first m ss
  unfolding pieces_within
  enough zero m ss h k = absurd (omega arith)
  enough (suc n) zero ss h k = absurd (omega arith)
  enough (suc n) (suc m) ss h k =
      after_same A ss (first ss) (pieces_within first n) (pieces_within first m)
      (λ x rest e. enough n m rest (omega (arith, s ss x rest e)) (omega (arith, s ss x rest e)))

  -- the first piece, and then the others
  pub pieces_of-step : (ss : List Sign)
      → pieces_of first ss ≡ after_first ss (first ss) (pieces_of first)
  unfolding pieces_of pieces_within
  pieces_of-step ss = after_same A ss (first ss) (pieces_within first (length ss))
      (λ rest. pieces_within first (suc (length rest)) rest)
      (λ x rest e. enough (length ss) (suc (length rest)) rest (s ss x rest e) (omega arith))

  -- one piece more is read
  pub so_far_more : (start : List Sign) (xs : List A) (left : List Sign) (x : A)
      (rest : List Sign) → SoFar A first start xs left → first left ≡ has x rest
      → SoFar A first start (xs ++ x ∷ []) rest
  so_far_more start xs left x rest h e =
      cc (pieces_of-step left, begins-push A xs x (pieces_of first rest))

  -- what has been read is whole where the source ends
  pub so_far_end : (start : List Sign) (xs : List A) (left rest : List Sign)
      → SoFar A first start xs left → first left ≡ ends rest
      → pieces_of first start ≡ whole xs rest
  so_far_end start xs left rest h e = cc (pieces_of-step left, begins-whole A xs rest)

  -- what has been read is stuck where the source is bad
  pub so_far_stuck : (start : List Sign) (xs : List A) (left : List Sign)
      → SoFar A first start xs left → first left ≡ faulty → pieces_of first start ≡ stuck left
  so_far_stuck start xs left h e = cc (pieces_of-step left, begins-stuck A xs left)

  -- where no pieces are read, their end is first
  pub whole_none : (ss rest : List Sign) → pieces_of first ss ≡ whole [] rest
      → first ss ≡ ends rest
  whole_none ss rest e = grind (arith, pieces_of-step ss)

  -- where pieces are read, the first of them is first, and the others are read after it
  pub whole_more : (ss : List Sign) (x : A) (xs : List A) (rest : List Sign)
      → pieces_of first ss ≡ whole (x ∷ xs) rest
      → (more : List Sign) × (first ss ≡ has x more) × (pieces_of first more ≡ whole xs rest)
  whole_more ss x xs rest e = grind (arith, pieces_of-step ss)
