use Rattle.std.proofs.Common.{arith, ap, eq-eqb, sym, ◌∙◌, false}
use Rattle.std.proofs.lemmas.Bool.{ne_eqb}
use Rattle.std.proofs.lemmas.List.{drop_all}
use Rattle.lq_predicate_formula.specs.Lexing.{word_bytes}
use Rattle.lq_predicate_formula.proofs.CountLemmas.{word_cut, word_end, word_escaped, word_more}
use Rattle.lq_predicate_formula.proofs.count.count_word.Goals as goal

pub loop-n-preserved-then-b-eq92 : goal.loop-n-preserved-then-b-eq92
loop-n-preserved-then-b-eq92 c =
    let two = word_escaped c.args.bytes.now c.loop-n.n (omega arith)
    (eq-eqb _ 92 c.if-b-eq92.true) in
    record { bound = omega arith; so_far = omega arith }

pub loop-n-preserved : goal.loop-n-preserved
loop-n-preserved c =
    let one = word_more c.args.bytes.now c.loop-n.n c.loop-n-test.true
    (ne_eqb _ 92 c.if-b-eq92.false) (sym c.ends_word.ensures ∙ c.if-ends_word.false) in
    record { bound = omega arith; so_far = omega arith }

pub returns-then-bytes-n-lt2-clause-value : goal.returns-then-bytes-n-lt2-clause-value
returns-then-bytes-n-lt2-clause-value c =
    let none = word_cut c.args.bytes.now c.loop-n.n c.loop-n-test.true (omega arith)
    (eq-eqb _ 92 c.if-b-eq92.true) in
    omega arith

pub returns-then-ends_word-clause-value : goal.returns-then-ends_word-clause-value
returns-then-ends_word-clause-value c =
    let none = word_end c.args.bytes.now c.loop-n.n c.loop-n-test.true
    (ne_eqb _ 92 c.if-b-eq92.false) (sym c.ends_word.ensures ∙ c.if-ends_word.true) in
    omega arith

pub returns-clause-value : goal.returns-clause-value
returns-clause-value c =
    let none =
    ap (word_bytes false) (drop_all c.loop-n.n c.args.bytes.now c.loop-n-test.false) in
    omega arith
