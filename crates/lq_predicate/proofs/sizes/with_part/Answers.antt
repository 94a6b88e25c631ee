use Rattle.std.proofs.Common.{◌∙◌, ap, ◌+◌, max}
use Rattle.lq_predicate_formula.specs.Capped.{capped}
use Rattle.lq_predicate.proofs.QuerySizeLemmas.{two_parts, more_parts}
use Rattle.lq_predicate.proofs.sizes.with_part.Goals as goal

pub returns-in-One : goal.returns-in-One
returns-in-One c = λ qs q h new.
    two_parts c.joined_texts_add.ensures c.args.parts c.in-One.only c.args.part _ _ qs q
    c.in-One.is h new
    (c.saturating_add.ensures ∙ ap (λ n. capped (n + 1)) c.max.ensures)
    c.pair_size.ensures

pub returns-in-More : goal.returns-in-More
returns-in-More c = λ qs q h new.
    more_parts c.joined_texts_add.ensures c.args.parts c.in-More.whole c.args.part _ _ qs q
    c.in-More.is h new
    (c.max-in-More.ensures ∙ ap (max c.in-More.whole.depth) c.saturating_add-in-More.ensures)
    (c.saturating_add-in-More-3.ensures
    ∙ ap (λ n. capped (n + 2)) c.saturating_add-in-More-2.ensures)
