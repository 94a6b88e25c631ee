-- Each text has tokens, and one list of them: those that the lexer finds.
use Rattle.std.proofs.Common.{◌≡◌, ◌<◌, ◌≤◌, ◌+◌, ℕ, zero, suc, true, false, List, [], ◌∷◌, length, get_or, drop, refl, sym, ap, ap₂, ◌∙◌, arith, subst, length-drop}
use Rattle.lq_predicate_formula.specs.Bytes.{is_space}
use Rattle.lq_predicate_formula.specs.Tokens.{Placed, HasOneTokenList, HasTokens}
use Rattle.lq_predicate_formula.specs.Lexing.{spaces, is_symbol, symbol_front, front, front_at, trimmed, first_and, tokens_within, tokens_of}
use Rattle.lq_predicate_formula.proofs.SignLemmas.{HasFronts, front_stands, token_starts, tokens_by, tokens_of_fronts, trimmed_begun}

-- what stands at the front of a text has a size
front_size : (b : ℕ) (bs : List ℕ) → is_space b ≡ false → 0 < (front b bs).size
front_size b bs dark =
    let h = front_stands b bs dark in
    let s = token_starts _ _ _ _ h.4 in
    let some : length h.0 ≡ suc (length s.1) = ap length s.2 in
    omega (arith, some, h.3)

-- what stands at the front of a text that begins with a symbol
pub front_symbol : (bs : List ℕ) → 0 < length bs → is_symbol (get_or bs 0 0) ≡ true
    → front_at bs ≡ symbol_front (get_or bs 0 0) (drop 1 bs)
front_symbol [] h e = absurd (omega arith)
front_symbol (b ∷ bs) h e = rw e

-- the first token and those behind it, where those are had
has_first : (n at : ℕ) (bs cs : List ℕ) → trimmed bs ≡ cs → length cs ≤ suc n
    → ((at : ℕ) (ds : List ℕ) → length ds ≤ n → HasFronts at ds (tokens_within n at ds))
    → HasFronts at bs (first_and (at + spaces bs) cs (tokens_within n))
has_first n at bs [] e h others = e
has_first n at bs (c ∷ cs) e h others =
    let ds = drop (front c cs).size (c ∷ cs) in
    let long : length (trimmed bs) ≡ suc (length cs) = ap length e in
    let b = trimmed_begun bs (omega arith) in
    let same : b.0 ≡ c = ap (λ l. get_or l 0 0) (sym b.2 ∙ e) in
    let some : 0 < (front c cs).size = front_size c cs (sym (ap is_space same) ∙ b.3) in
    let next = at + spaces bs + (front c cs).size in (
      next,
      ds,
      rw e (omega arith, refl, refl, refl),
      others next ds (omega (arith, length-drop (front c cs).size (c ∷ cs))),
    )

-- the tokens within a bound on the text's length are its tokens
has_within : (n at : ℕ) (bs : List ℕ) → length bs ≤ n → HasFronts at bs (tokens_within n at bs)
unfolding tokens_within
has_within zero at [] h = refl
has_within zero at (b ∷ bs) h = absurd (omega arith)
has_within (suc n) at bs h = has_first n at bs (trimmed bs) refl
    (omega (arith, length-drop (spaces bs) bs)) (λ at' ds k. has_within n at' ds k)

-- the empty text has no byte
none_left : (bs : List ℕ) → bs ≡ [] → 0 < length bs → ⊥
none_left bs e h = let l : length bs ≡ 0 = ap length e in omega arith

-- the lexer finds only one list of tokens in a text
fronts_same : (ts us : List Placed) (at : ℕ) (bs : List ℕ)
    → HasFronts at bs ts → HasFronts at bs us → ts ≡ us
fronts_same [] [] at bs h k = refl
fronts_same [] (u ∷ us) at bs h k = absurd (none_left (trimmed bs) h k.2.0)
fronts_same (t ∷ ts) [] at bs h k = absurd (none_left (trimmed bs) k h.2.0)
fronts_same (t ∷ ts) (u ∷ us) at bs h k =
    let n : h.0 ≡ k.0 = h.2.2 ∙ sym k.2.2 in
    let r : h.1 ≡ k.1 = h.2.3 ∙ sym k.2.3 in
    let same : ts ≡ us = fronts_same ts us k.0 k.1
    (subst (λ x. HasFronts x k.1 ts) n (subst (λ x. HasFronts h.0 x ts) r h.3)) k.3 in
    ap₂ (λ x y. x ∷ y) (h.2.1 ∙ sym k.2.1) same

-- a text has only one list of tokens
pub tokens_same : (ts us : List Placed) (at : ℕ) (bs : List ℕ)
    → HasTokens at bs ts → HasTokens at bs us → ts ≡ us
tokens_same ts us at bs h k =
    fronts_same ts us at bs (tokens_by ts at bs h) (tokens_by us at bs k)

-- a text has the tokens that the lexer finds
pub has_found : (at : ℕ) (bs : List ℕ) → HasTokens at bs (tokens_of at bs)
has_found at bs =
    tokens_of_fronts (tokens_of at bs) at bs (has_within (length bs) at bs (omega arith))

-- each text has one list of tokens
pub one_token_list : (at : ℕ) (bs : List ℕ) → HasOneTokenList at bs
one_token_list at bs = record {
  tokens = tokens_of at bs;
  has = has_found at bs;
  only = λ others h. tokens_same others (tokens_of at bs) at bs h (has_found at bs);
}
