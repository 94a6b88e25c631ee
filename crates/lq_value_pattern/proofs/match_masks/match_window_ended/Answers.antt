use Rattle.std.proofs.Common.{◌+◌, ◌-◌, ◌∙◌, length, arith, inl, inr}
use Rattle.std.proofs.lemmas.Bool.{cases_eq}
use Rattle.lq_value_pattern.specs.Masks.{AreEnds}
use Rattle.lq_value_pattern.proofs.MaskLemmas.{ends_more, ends_all}
use Rattle.lq_value_pattern.proofs.match_masks.match_window_ended.Goals as goal

pub loop-i-preserved : goal.loop-i-preserved
loop-i-preserved c =
    let es = c.args.elements.now in
    let cs = c.args.text.now in
    let i = c.loop-i.i in
    let ends = c.next_ends-ends.result in
    let last = length es - 1 in
    let masks = c.requires.masks i c.loop-i-test.true in
    let next : AreEnds es cs (i + 1) ends =
    ends_more es cs c.loop-i.ends _ ends i (omega arith) c.loop-i.invariant.ends masks.1
    c.next_ends-ends.ensures.ends in
    record {
      small = c.next_ends-ends.ensures.small;
      ends = next;
      done = λ k le. elim (cases_eq (k + last) i) [
        | inl here ↦
            let hit = ends_all es cs ends last i k (omega arith) here next in
            let old = c.loop-i.invariant.left k (omega (arith, here)) in
            cc (c.keep_end.ensures.at k here, hit, old)
        | inr other ↦ c.keep_end.ensures.others k other
            ∙ c.loop-i.invariant.done k (omega arith)
      ];
      left = λ k lt. c.keep_end.ensures.others k (λ same. absurd (omega (arith, same)))
          ∙ c.loop-i.invariant.left k (omega arith);
    }
