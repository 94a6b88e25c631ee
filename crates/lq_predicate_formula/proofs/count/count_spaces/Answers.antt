use Rattle.std.proofs.Common.{arith, ◌∙◌, ◌+◌, ◌≡◌, ◌<◌, sym, pred, get_or, subst}
use Rattle.lq_predicate_formula.proofs.CountLemmas.{spaces_more}
use Rattle.lq_predicate_formula.proofs.count.count_spaces.Goals as goal

pub loop-n-preserved : goal.loop-n-preserved
loop-n-preserved c =
    let e : pred (c.loop-n.n + 1) ≡ c.loop-n.n = omega arith in
    let one = spaces_more c.args.bytes.now c.loop-n.n c.loop-n-test.true
    (sym c.is_space.ensures.value ∙ c.if-is_space.true) in
    record {
      bound = omega arith;
      so_far = omega arith;
      last = λ _. subst (λ i. get_or c.args.bytes.now i 0 < 128) (sym e)
          (c.is_space.ensures.ascii c.if-is_space.true);
    }
