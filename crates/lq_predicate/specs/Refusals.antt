-- Why a formula is refused.
use Rattle.std.specs.Prelude.{◌≡◌, ◌⊎◌, ℕ, List, Option, Some, None}
use Rattle.lq_value.specs.declared.refusal.Refusal.{Refusal}
use Rattle.lq_value.specs.declared.refusal.Refusal.TheVariants.{BadQuery, NoMemory}
use Rattle.lq_predicate_formula.specs.Faults.{IsFaulty, Reads}
use Rattle.lq_predicate_formula.specs.Query.{Query}

-- the text has its leftmost fault at this offset, or it reads as a query and memory is wanting
abbrev pub IsRefusalOf : List ℕ → Refusal → Type 0
IsRefusalOf text e = ((offset : ℕ) × (e ≡ BadQuery offset) × IsFaulty text offset)
    ⊎ ((e ≡ NoMemory) × ((q : Query) × Reads text q))

-- the text has its leftmost fault at this offset, or it reads as a query
abbrev pub IsFaultOf : List ℕ → Option ℕ → Type 0
IsFaultOf text None = (q : Query) × Reads text q
IsFaultOf text (Some offset) = IsFaulty text offset
