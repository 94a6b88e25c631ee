use Rattle.std.proofs.Common.{◌≡◌, drop}
use Rattle.lq_predicate_formula.specs.Query.{queries}
use Rattle.lq_predicate_formula.specs.Needs.{needs_attribute, some_need, all_need}
use Rattle.lq_predicate_formula.proofs.tree.Tree.+needs_attribute.Given as goal

abbrev pub invariant-loop-part : goal.invariant-loop-part
invariant-loop-part l =
    some_need (queries (drop l.part-index l.part-items)) ≡ needs_attribute l.self

abbrev pub invariant-loop-part-2 : goal.invariant-loop-part-2
invariant-loop-part-2 l =
    all_need (queries (drop l.part-index l.part-items)) ≡ needs_attribute l.self
