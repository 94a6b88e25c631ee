use Rattle.std.proofs.Common.{◌≡◌, drop, nat_le, ◌-◌}
use Rattle.lq_predicate_formula.specs.Query.{queries}
use Rattle.lq_predicate_formula.specs.Canonical.{depth, deepest}
use Rattle.lq_predicate_formula.proofs.tree.Tree.+is_shallow.Given as goal

abbrev pub invariant-loop-part : goal.invariant-loop-part
invariant-loop-part l = nat_le (deepest (queries (drop l.part-index l.part-items))) (l.most - 1)
    ≡ nat_le (depth l.self) l.most
