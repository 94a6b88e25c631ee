-- What the tokens of a formula give: its parameters, or the first that is in no formula.
use Rattle.std.specs.Prelude.{◌≡◌, ◌⊎◌, ◌+◌, ℕ, List, length, Some, None}
use Rattle.lq_value.specs.declared.refusal.Refusal.{Refusal}
use Rattle.lq_value.specs.declared.refusal.Refusal.TheVariants.{BadQuery, NoMemory}
use Rattle.lq_predicate_formula.specs.Tokens.{HasTokens, Placed, word}
use Rattle.lq_embed.specs.declared.parameters.Parameter.{Parameter}
use Rattle.lq_embed.specs.Parameters.{first_fault, parameters_of}

-- a word without marks ends before this offset
abbrev pub EndsAt : Placed → ℕ → Type 0
EndsAt t end =
    (raw : List ℕ) → t.raw_offset ≡ t.offset → t.token ≡ word raw → end ≡ t.offset + length raw

-- the tokens of the formula have these parameters, and each may be in a formula
pub record HasParameters (formula : List ℕ) (parameters : List Parameter) : Type 0 where
  pub tokens : List Placed
  pub has : HasTokens 0 formula tokens
  pub fine : first_fault (length formula) tokens ≡ None
  pub are : parameters ≡ parameters_of tokens

-- a token of the formula is in none, and the leftmost such token's offset is told
pub record HasFault (formula : List ℕ) (refusal : Refusal) : Type 0 where
  pub tokens : List Placed
  pub has : HasTokens 0 formula tokens
  pub offset : ℕ
  pub fault : first_fault (length formula) tokens ≡ Some offset
  pub is : refusal ≡ BadQuery offset

-- the same, or memory ran out
abbrev pub IsNotCut : List ℕ → Refusal → Type 0
IsNotCut formula refusal = HasFault formula refusal ⊎ (refusal ≡ NoMemory)
