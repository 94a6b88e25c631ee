use Rattle.std.proofs.Common.{◌≡◌, drop}
use Rattle.lq_predicate_formula.specs.Query.{queries}
use Rattle.lq_predicate_formula.specs.Names.{attributes, all_attributes, each_once}
use Rattle.lq_predicate_formula.proofs.tree.Tree.+add_names.Given as goal

abbrev pub invariant-loop-part : goal.invariant-loop-part
invariant-loop-part l =
    each_once l.names.items (all_attributes (queries (drop l.part-index l.part-items)))
    ≡ each_once l.fn.names.items (attributes l.self)
