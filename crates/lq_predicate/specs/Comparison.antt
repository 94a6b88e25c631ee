-- When a comparison is a predicate.
use Rattle.std.specs.Prelude.{ℕ, List, IsTrue}
use Rattle.lq_value.specs.Compare.{suits}
use Rattle.lq_value.specs.declared.literal.Literal.{Literal}
use Rattle.lq_value.specs.declared.op.Op.{Op}
use Rattle.lq_predicate_formula.specs.Limits.{IsGoodLiteral}
use Rattle.lq_predicate_formula.specs.PredicateLimits.{is_within}
use Rattle.lq_predicate_formula.specs.Query.{Compare}

-- the literal suits the operator, some text writes it, and the comparison is within the limits
pub record IsGoodComparison (attr : List ℕ) (op : Op) (literal : Literal) : Type 0 where
  pub suited : IsTrue (suits literal op)
  pub good : IsGoodLiteral literal
  pub within : IsTrue (is_within (Compare attr op literal))
