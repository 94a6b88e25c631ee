use Rattle.std.proofs.Common.{sym, ◌∙◌}
use Rattle.lq_update.proofs.PlaceLemmas.{triple-read, has_entry-read, has_entry-lacks}
use Rattle.lq_update.proofs.fold.index_with.Goals as goal

pub returns-in_default-clause-has : goal.returns-in_default-clause-has
returns-in_default-clause-has c = has_entry-lacks _ _ c.requires c.in_default.ensures.has

pub returns-then-is_triple-clause-found : goal.returns-then-is_triple-clause-found
returns-then-is_triple-clause-found c = triple-read _ _ c.index-entries-index.result _
    c.in-Ok.ensures.found c.index-entries-index.is (sym c.is_triple.ensures ∙ c.if-is_triple.true)

pub returns-then-is_triple-clause-has : goal.returns-then-is_triple-clause-has
returns-then-is_triple-clause-has c = has_entry-read _ _ c.index-entries-index.result _ _ c.requires
    c.in-Ok.ensures.found c.index-entries-index.is (sym c.is_triple.ensures ∙ c.if-is_triple.true)

pub returns-else-is_triple-clause-has : goal.returns-else-is_triple-clause-has
returns-else-is_triple-clause-has c = has_entry-read _ _ c.index-entries-index.result _ _ c.requires
    c.in-Ok.ensures.found c.index-entries-index.is (sym c.is_triple.ensures ∙ c.if-is_triple.false)
