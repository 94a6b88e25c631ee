use Rattle.std.proofs.Common.{◌≡◌, drop}
use Rattle.lq_predicate_formula.specs.Query.{queries}
use Rattle.lq_predicate_formula.specs.Truth.{truth, all_true, some_true}
use Rattle.lq_predicate_formula.proofs.tree.Tree.+is_true_of.Given as goal

abbrev pub invariant-loop-part : goal.invariant-loop-part
invariant-loop-part g l = all_true (queries (drop l.part-index l.part-items)) (g.R.Row.looks l.row)
    ≡ truth l.self (g.R.Row.looks l.row)

abbrev pub invariant-loop-part-2 : goal.invariant-loop-part-2
invariant-loop-part-2 g l = some_true (queries (drop l.part-index l.part-items))
    (g.R.Row.looks l.row) ≡ truth l.self (g.R.Row.looks l.row)
