-- What `lq check` prints.
use Rattle.std.specs.Prelude.{◌≡◌, ℕ, List}
use Rattle.lq_predicate.specs.Query.{Query}
use Rattle.lq_predicate.specs.Faults.{Reads}
use Rattle.lq_predicate.specs.Canonical.{canonical}

-- `written` is the canonical text of the query that `text` reads as
pub record IsCanonicalOf (text written : List ℕ) : Type 0 where
  pub query : Query
  pub reads : Reads text query
  pub is : written ≡ canonical query
