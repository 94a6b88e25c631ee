use Rattle.std.proofs.Common.{arith, eq-eqb, ap, ◌∙◌, sym, false}
use Rattle.std.proofs.lemmas.Bool.{ne_eqb}
use Rattle.std.proofs.lemmas.List.{drop_all}
use Rattle.lq_predicate_formula.specs.Lexing.{quoted_bytes}
use Rattle.lq_predicate_formula.proofs.CountLemmas.{added, added_none, quoted_cut, quoted_end, quoted_escaped, quoted_more}
use Rattle.lq_predicate_formula.proofs.count.count_quoted.Goals as goal

pub loop-n-preserved-then-b-eq92 : goal.loop-n-preserved-then-b-eq92
loop-n-preserved-then-b-eq92 c = record {
  bound = omega arith;
  so_far = sym (quoted_escaped c.args.mark c.args.bytes.now c.loop-n.n (omega arith)
      (eq-eqb _ 92 c.if-b-eq92.true)) ∙ c.loop-n.invariant.so_far;
}

pub loop-n-preserved : goal.loop-n-preserved
loop-n-preserved c = record {
  bound = omega arith;
  so_far = sym (quoted_more c.args.mark c.args.bytes.now c.loop-n.n (omega arith)
      (ne_eqb _ 92 c.if-b-eq92.false) (ne_eqb _ c.args.mark c.if-b-mark.false))
      ∙ c.loop-n.invariant.so_far;
}

pub loop-n-init : goal.loop-n-init
loop-n-init c = record { bound = omega arith; so_far = added_none _ }

pub returns-then-bytes-n-lt2-clause-value : goal.returns-then-bytes-n-lt2-clause-value
returns-then-bytes-n-lt2-clause-value c =
    sym (quoted_cut c.args.mark c.args.bytes.now c.loop-n.n c.loop-n-test.true (omega arith)
    (eq-eqb _ 92 c.if-b-eq92.true)) ∙ c.loop-n.invariant.so_far

pub returns-then-b-mark-clause-value : goal.returns-then-b-mark-clause-value
returns-then-b-mark-clause-value c =
    sym (quoted_end c.args.mark c.args.bytes.now c.loop-n.n c.loop-n-test.true
    (ne_eqb _ 92 c.if-b-eq92.false) (eq-eqb _ c.args.mark c.if-b-mark.true))
    ∙ c.loop-n.invariant.so_far

pub returns-clause-value : goal.returns-clause-value
returns-clause-value c = sym (ap (λ bs. added c.loop-n.n (quoted_bytes c.args.mark false bs))
    (drop_all c.loop-n.n c.args.bytes.now c.loop-n-test.false)) ∙ c.loop-n.invariant.so_far
