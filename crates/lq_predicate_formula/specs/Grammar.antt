-- The grammar, by cases. The number is how many more levels of parentheses and `!` may nest.
use Rattle.std.specs.Prelude.{◌≡◌, ◌⊎◌, ℕ, zero, suc, List, [], ◌∷◌, ◌++◌, Some}
use Rattle.lq_value.specs.declared.op.Op.{Op}
use Rattle.lq_predicate_formula.specs.Tokens.{Token, opens, closes, bang, ands, ors, op, word}
use Rattle.lq_value.specs.declared.literal.Literal.{Literal}
use Rattle.lq_predicate_formula.specs.Literals.{name_of, literal_of}
use Rattle.lq_predicate_formula.specs.Query.{Query, Compare, Not, both_of, either_of}

-- the relation of tokens and the query that they read as
abbrev pub Reading : Type 1
Reading = List Token → Query → Type 0

-- Each query in turn follows a separator.
abbrev pub MoreParts : Reading → Token → List Token → List Query → Type 0
MoreParts P sep ts [] = ts ≡ []
MoreParts P sep ts (q ∷ qs) =
    (a : List Token) × (b : List Token) × (ts ≡ sep ∷ (a ++ b)) × P a q × MoreParts P sep b qs

-- one or more parts, with a separator between them
abbrev pub Parts : Reading → Token → List Token → Query → List Query → Type 0
Parts P sep ts q qs =
    (a : List Token) × (b : List Token) × (ts ≡ a ++ b) × P a q × MoreParts P sep b qs

abbrev pub IsAnd : Reading → Reading
IsAnd P ts r = (q : Query) × (qs : List Query) × (r ≡ both_of (q ∷ qs)) × Parts P ands ts q qs

abbrev pub IsOr : Reading → Reading
IsOr P ts r =
    (q : Query) × (qs : List Query) × (r ≡ either_of (q ∷ qs)) × Parts (IsAnd P) ors ts q qs

abbrev pub IsComparison : Reading
IsComparison ts r = (a : List ℕ) × (o : Op) × (l : List ℕ) × (name : List ℕ) × (literal : Literal)
    × (ts ≡ word a ∷ op o ∷ word l ∷ []) × (name_of a ≡ Some name) × (literal_of o l ≡ Some literal)
    × (r ≡ Compare name o literal)

-- a comparison, a formula in parentheses, or `!` and what may follow it
abbrev pub IsNot : ℕ → Reading
IsNot zero ts r = IsComparison ts r
IsNot (suc n) ts r = IsComparison ts r
    ⊎ (((a : List Token) × (ts ≡ opens ∷ (a ++ closes ∷ [])) × IsOr (IsNot n) a r)
    ⊎ ((a : List Token) × (q : Query) × (ts ≡ bang ∷ a) × (r ≡ Not q) × IsNot n a q))

-- The tokens are a formula for the query.
abbrev pub IsFormula : ℕ → Reading
IsFormula n = IsOr (IsNot n)

-- the most levels of parentheses and `!` in a formula
abbrev pub nesting : ℕ
nesting = 64

-- Some formula begins with these tokens.
abbrev pub IsBegun : List Token → Type 0
IsBegun ts = (rest : List Token) × (q : Query) × IsFormula nesting (ts ++ rest) q
