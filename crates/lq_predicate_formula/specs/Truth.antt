-- When a predicate holds for a row. A row is seen as what it shows under each attribute's name.
use Rattle.std.specs.Prelude.{ℕ, List, Bool, true, false, not, ◌&&◌, ◌||◌, Option, Some, None}
use Rattle.lq_value.specs.declared.op.Op.{Op}
use Rattle.lq_value.specs.declared.literal.Literal.{Literal}
use Rattle.lq_value.specs.PlainValue.{PlainValue}
use Rattle.lq_value.specs.Compare.{compares}
use Rattle.lq_predicate_formula.specs.Query.{Query, Compare, Not, And, Or, Queries, no_more, and_then}

-- what a row shows under each name
abbrev pub Look : Type 0
Look = List ℕ → Option PlainValue

-- an absent attribute makes a comparison false, also for `!=`
abbrev pub compares_if_present : Option PlainValue → Op → Literal → Bool
compares_if_present None op literal = false
compares_if_present (Some held) op literal = compares held op literal

-- whether the predicate holds for a row
abbrev mutual
  pub truth : Query → Look → Bool
  truth (Compare attr op literal) look = compares_if_present (look attr) op literal
  truth (Not q) look = not (truth q look)
  truth (And qs) look = all_true qs look
  truth (Or qs) look = some_true qs look

  -- whether each of some queries holds
  pub all_true : Queries → Look → Bool
  all_true no_more look = true
  all_true (and_then q qs) look = truth q look && all_true qs look

  -- whether one of some queries holds
  pub some_true : Queries → Look → Bool
  some_true no_more look = false
  some_true (and_then q qs) look = truth q look || some_true qs look
