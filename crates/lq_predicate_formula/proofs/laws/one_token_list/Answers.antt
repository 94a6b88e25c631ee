use Rattle.lq_predicate_formula.proofs.TokenLemmas as each
use Rattle.lq_predicate_formula.proofs.laws.one_token_list.Goals as goal

pub returns : goal.returns
returns c = each.one_token_list
