use Rattle.std.proofs.Common.{◌≡◌, ◌+◌, ◌*◌, take}
use Rattle.lq_predicate_formula.specs.Query.{queries}
use Rattle.lq_predicate_formula.specs.Canonical.{depth, deepest}
use Rattle.lq_predicate_formula.proofs.tree.+copy.Given as goal

abbrev pub decreases-Tree::copy : goal.decreases-Tree::copy
decreases-Tree::copy l = 2 * depth l.self.now + 1

abbrev pub decreases-copy_parts : goal.decreases-copy_parts
decreases-copy_parts l = 2 * deepest (queries l.parts.now) + 2

abbrev pub invariant-copy_parts-loop-part : goal.invariant-copy_parts-loop-part
invariant-copy_parts-loop-part l = l.copies.items ≡ take l.part-index l.parts
