use Rattle.std.proofs.Common.{rules, sym, ◌∙◌, eqb-true}
use Rattle.std.proofs.lemmas.List.{nil_from_length}
use Rattle.lq_predicate_formula.proofs.SignLemmas.{trimmed_blank, yields_of}
use Rattle.lq_predicate_formula.proofs.lexer.next_token.Goals as goal

pub returns-then-is_empty-clause-none : goal.returns-then-is_empty-clause-none
returns-then-is_empty-clause-none c =
    let none = eqb-true _ 0 (sym c.is_empty.ensures ∙ c.if-is_empty.true) in
    trimmed_blank c.args.cursor.rest.now (sym c.trim-space.ensures.rest ∙ nil_from_length _ none)

pub returns-clause-some : goal.returns-clause-some
returns-clause-some c = yields_of _ _ _ _ _ (search rules)
