-- The query that a node of a tree stands for.
use Rattle.lq_predicate_formula.specs.Query.{Query, Compare, Not, And, Or, queries}
use Rattle.lq_predicate_formula.specs.declared.tree.TreeNode.{TreeNode}
use Rattle.lq_predicate_formula.specs.declared.tree.TreeNode.TheVariants as node

abbrev pub tree_query : TreeNode → Query
tree_query (node.Compare attr op literal) = Compare attr op literal
tree_query (node.Not part) = Not part.value
tree_query (node.And parts) = And (queries parts.items)
tree_query (node.Or parts) = Or (queries parts.items)
