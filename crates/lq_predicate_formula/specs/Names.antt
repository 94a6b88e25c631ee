-- The names of a predicate's attributes: each once, in the order of first use.
use Rattle.std.specs.Prelude.{ℕ, List, [], ◌∷◌, ◌++◌, Bool, if◌then◌else◌}
use Rattle.std.specs.List.{list_any}
use Rattle.std.specs.Str.{bytes_eq}
use Rattle.lq_predicate_formula.specs.Query.{Query, Compare, Not, And, Or, Queries, no_more, and_then}

-- the attributes of the comparisons, from the left
abbrev mutual
  pub attributes : Query → List (List ℕ)
  attributes (Compare attr op literal) = attr ∷ []
  attributes (Not q) = attributes q
  attributes (And qs) = all_attributes qs
  attributes (Or qs) = all_attributes qs

  -- the same for each query of a list
  pub all_attributes : Queries → List (List ℕ)
  all_attributes no_more = []
  all_attributes (and_then q qs) = attributes q ++ all_attributes qs

abbrev pub is_among : List (List ℕ) → List ℕ → Bool
is_among names name = list_any (λ other. bytes_eq other name) names

-- the names before, then this name unless it is one of them
abbrev pub with_name : List (List ℕ) → List ℕ → List (List ℕ)
with_name names name = if is_among names name then names else names ++ name ∷ []

-- the names before, then each new name at its first use
abbrev pub each_once : List (List ℕ) → List (List ℕ) → List (List ℕ)
each_once names [] = names
each_once names (name ∷ uses) = each_once (with_name names name) uses

abbrev pub names_of : Query → List (List ℕ)
names_of q = each_once [] (attributes q)
