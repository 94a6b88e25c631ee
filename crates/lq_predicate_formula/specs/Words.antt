-- A property of each word among some tokens.
use Rattle.std.specs.Prelude.{ℕ, List, [], ◌∷◌}
use Rattle.lq_predicate_formula.specs.Tokens.{Token, word}

-- a token's word, if it is one
abbrev pub WordIs : (List ℕ → Type 0) → Token → Type 0
WordIs T (word raw) = T raw
WordIs T t = Unit {0}

-- each word of the tokens
abbrev pub WordsAre : (List ℕ → Type 0) → List Token → Type 0
WordsAre T [] = Unit {0}
WordsAre T (t ∷ ts) = WordIs T t × WordsAre T ts
