use Rattle.lq_predicate_formula.proofs.size.comparison_size_with.Goals as goal

pub returns : goal.returns
returns c = λ l is. c.joined_size.ensures c.args.attr.now l c.attr_size.ensures is
