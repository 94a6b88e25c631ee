-- Each part of a tree's node is less deep than the node.
use Rattle.std.specs.Prelude.{◌+◌, ◌≤◌, max, List, [], ◌∷◌}
use Rattle.std.proofs.Common.{arith}
use denote.Param.Weighed.{most}
use Rattle.lq_predicate_formula.specs.Query.{Query, queries}
use Rattle.lq_predicate_formula.specs.Canonical.{depth, deepest}
use Rattle.lq_predicate_formula.specs.Tree.{tree_query}
use Rattle.lq_predicate_formula.specs.declared.tree.TreeNode.{TreeNode}
use Rattle.lq_predicate_formula.specs.declared.tree.TreeNode.TheVariants as node
use Rattle.lq_predicate_formula.specs.declared.tree.Tree.TheDeep.{deep-TreeNode}

-- no part is deeper than the deepest one
pub most_le-deepest : (parts : List Query)
    → most (λ q. depth q + 1) parts ≤ 1 + deepest (queries parts)
most_le-deepest [] = omega arith
most_le-deepest (q ∷ qs) = omega (arith, most_le-deepest qs)

-- a tree's own depth is at most that of its query
pub deep_le-depth : (n : TreeNode) → max (deep-TreeNode n) 0 ≤ depth (tree_query n)
deep_le-depth (node.Compare attr op literal) = omega arith
deep_le-depth (node.Not part) = omega arith
deep_le-depth (node.And parts) = omega (arith, most_le-deepest parts.items)
deep_le-depth (node.Or parts) = omega (arith, most_le-deepest parts.items)
