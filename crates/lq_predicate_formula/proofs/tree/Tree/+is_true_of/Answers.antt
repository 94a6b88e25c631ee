use Rattle.std.proofs.Common.{◌≡◌, ◌∙◌, ap, arith, rules}
use Rattle.std.proofs.lemmas.Bool.{and_parts}
use Rattle.lq_predicate_formula.specs.Query.{And, Or, queries}
use Rattle.lq_predicate_formula.specs.Canonical.{depth}
use Rattle.lq_predicate_formula.specs.PredicateLimits.{is_formed}
use Rattle.lq_predicate_formula.proofs.PartLemmas.{depth_le-deepest, part_formed}
use Rattle.lq_predicate_formula.proofs.tree.Tree.+is_true_of.Goals as goal

pub is_true_of-requires-in-loop-part : goal.is_true_of-requires-in-loop-part
is_true_of-requires-in-loop-part g t c =
    let is : And (queries c.deref-part-items.result.now) ≡ c.args.self.now = search rules in
    let deep = ap depth is in
    let falls = depth_le-deepest _ _ _ c.loop-part-test.true c.part-item.is in
    λ κs within. (
      omega (arith, deep, falls, c.decreases),
      (
        search rules,
        part_formed _ _ _ c.loop-part-test.true c.part-item.is
            (and_parts _ _ (ap is_formed is ∙ c.requires)).1,
      ),
    )

pub is_true_of-requires-in-loop-part-2 : goal.is_true_of-requires-in-loop-part-2
is_true_of-requires-in-loop-part-2 g t c =
    let is : Or (queries c.deref-part-items-in-Or.result.now) ≡ c.args.self.now = search rules in
    let deep = ap depth is in
    let falls = depth_le-deepest _ _ _ c.loop-part-2-test.true c.part-item-in-loop-part-2.is in
    λ κs within. (
      omega (arith, deep, falls, c.decreases),
      (
        search rules,
        part_formed _ _ _ c.loop-part-2-test.true c.part-item-in-loop-part-2.is
            (and_parts _ _ (ap is_formed is ∙ c.requires)).1,
      ),
    )
