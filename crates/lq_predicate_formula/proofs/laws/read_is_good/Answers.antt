use Rattle.std.proofs.Common.{subst, IsUtf8}
use Rattle.lq_predicate_formula.specs.Grammar.{nesting}
use Rattle.lq_predicate_formula.specs.Words.{WordsAre}
use Rattle.lq_predicate_formula.specs.Tokens.{bare}
use Rattle.lq_predicate_formula.proofs.GoodLemmas.{formula_good}
use Rattle.lq_predicate_formula.proofs.TokenLemmas.{tokens_same}
use Rattle.lq_predicate_formula.proofs.laws.read_is_good.Goals as goal

pub returns : goal.returns
returns c = λ text q ts h has texts.
    formula_good c.sources_are_read.ensures nesting (bare h.tokens) q
    (subst (λ us. WordsAre IsUtf8 (bare us)) (tokens_same ts h.tokens 0 text has h.has) texts)
    h.formula
