-- Each line, then the batch that is left, and then what waits.
use Rattle.std.proofs.Common.{rules, arith, ◌≡◌, ◌∙◌, ◌+◌, ◌++◌, ◌∷◌, [], List, take, drop, Ok, Err, refl, sym, ap, append_assoc}
use Rattle.lq_script.specs.Asked.{Asked, asked_by, asked_by_all}
use Rattle.lq_script.proofs.ProgressLemmas.{carries_as, carries_more, carries_none, carries_ok, carries_then, carries_written}
use Rattle.lq_script.proofs.ReadingLemmas.{first_asked, none_asked}
use Rattle.lq_script.proofs.runner.Runner.answer_lines.Goals as goal

pub loop-count-init : goal.loop-count-init
loop-count-init g c = record {
  within = omega arith;
  same = refl;
  asked = [];
  split = refl;
  carried = carries_none _ tt;
}

pub returns-in_err-take_line-clause-carried : goal.returns-in_err-take_line-clause-carried
returns-in_err-take_line-clause-carried g c =
    let e = c.in_err-take_line.field-0.0 in
    let is : c.from_residual.result ≡ Err e = search rules in
    let text = c.loop-count.rest.now in
    let line = asked_by (take c.in-Some.count text) in
    let later = asked_by_all (drop (c.in-Some.count + 1) text) in
    let first = first_asked text c.in-Some.count c.in-Some.ensures.some in
    carries_as (asked_by_all c.args.lines.now) (c.loop-count.invariant.asked ++ line ∷ later)
    c.from_residual.result (Err e) _ _
    (c.loop-count.invariant.split
    ∙ ap (λ (l : List Asked). c.loop-count.invariant.asked ++ l) first) is
    (carries_then c.loop-count.invariant.asked (line ∷ later) (Err e) _ _ _ tt
    c.loop-count.invariant.carried
    (carries_more (line ∷ []) later e _ _ c.in_err-take_line.ensures.carried))

pub loop-count-preserved : goal.loop-count-preserved
loop-count-preserved g c =
    let text = c.loop-count.rest.now in
    let line = asked_by (take c.in-Some.count text) in
    let first = first_asked text c.in-Some.count c.in-Some.ensures.some in
    record {
      within = omega (arith, c.after-rest.ensures.shorter, c.loop-count.invariant.within);
      same = c.take_line.ensures.same ∙ c.loop-count.invariant.same;
      asked = c.loop-count.invariant.asked ++ line ∷ [];
      split =
          c.loop-count.invariant.split
          ∙ ap (λ (l : List Asked). c.loop-count.invariant.asked ++ l) first
          ∙ sym (append_assoc c.loop-count.invariant.asked (line ∷ [])
          (asked_by_all (drop (c.in-Some.count + 1) text)))
          ∙ ap (λ t. (c.loop-count.invariant.asked ++ line ∷ []) ++ asked_by_all t)
          (sym c.after-rest.ensures.rest);
      carried = carries_ok (c.loop-count.invariant.asked ++ line ∷ []) _ _ c.in_ok-take_line.field-0
          tt
          (carries_then c.loop-count.invariant.asked (line ∷ []) (Ok c.in_ok-take_line.field-0) _ _
          _ tt c.loop-count.invariant.carried c.in_ok-take_line.ensures.carried);
    }

pub returns-in_err-end_batch-clause-carried : goal.returns-in_err-end_batch-clause-carried
returns-in_err-end_batch-clause-carried g c =
    let e = c.in_err-end_batch.field-0.0 in
    let r = c.from_residual-in_err-end_batch.result in
    let is : r ≡ Err e = search rules in
    let asked = c.loop-count.invariant.asked in
    carries_as (asked_by_all c.args.lines.now) (asked ++ []) r (Err e) _ _
    (c.loop-count.invariant.split
    ∙ ap (λ (l : List Asked). asked ++ l)
    (none_asked c.loop-count.rest.now c.in_default.ensures.none)) is
    (carries_then asked [] (Err e) _ _ _ tt c.loop-count.invariant.carried
    c.in_err-end_batch.ensures.carried)

pub returns-clause-carried : goal.returns-clause-carried
returns-clause-carried g c =
    let r = c.write_replies.result in
    let asked = c.loop-count.invariant.asked in
    let quiet = c.in_ok-end_batch.ensures.no_reads in
    carries_as (asked_by_all c.args.lines.now) (asked ++ []) r r _ _
    (c.loop-count.invariant.split
    ∙ ap (λ (l : List Asked). asked ++ l)
    (none_asked c.loop-count.rest.now c.in_default.ensures.none)) refl
    (carries_then asked [] r _ _ _ tt c.loop-count.invariant.carried
    (carries_then [] [] r _ _ _ _ c.in_ok-end_batch.ensures.carried
    (carries_written r _ _ refl quiet quiet c.write_replies.ensures.put)))
