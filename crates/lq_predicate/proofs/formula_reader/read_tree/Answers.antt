use Rattle.std.proofs.Common.{inl, refl}
use Rattle.lq_predicate.proofs.LimitLemmas.{reads_predicate}
use Rattle.lq_predicate.proofs.ReadLemmas.{whole_reads}
use Rattle.lq_predicate.proofs.formula_reader.read_tree.Goals as goal

pub returns-in-Some-clause-fails : goal.returns-in-Some-clause-fails
returns-in-Some-clause-fails c = inl (c.in-Some.offset, refl, c.in-Some.ensures)

pub returns-in-Ok-clause-reads : goal.returns-in-Ok-clause-reads
returns-in-Ok-clause-reads c = whole_reads c.args.formula.now c.in-Ok.tree
    (c.one_reading.ensures _) c.in_default.ensures c.in-Ok.ensures.whole

pub returns-in-Ok-clause-valid : goal.returns-in-Ok-clause-valid
returns-in-Ok-clause-valid c =
    reads_predicate c.args.formula.now c.in-Ok.tree (returns-in-Ok-clause-reads c)

pub returns-in-Ok-clause-proper : goal.returns-in-Ok-clause-proper
returns-in-Ok-clause-proper c =
    let texts = c.in-Ok.ensures.texts in
    c.read_is_good.ensures c.args.formula.now c.in-Ok.tree texts.0
    (returns-in-Ok-clause-reads c) texts.1 texts.2
