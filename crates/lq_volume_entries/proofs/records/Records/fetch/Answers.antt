use Rattle.std.proofs.Common.{rules}
use Rattle.std.proofs.lemmas.List.Sorted.{IsNonDecreasingBy-from_sort_by_key}
use Rattle.lq_volume_entries.proofs.ByNode.{finds-ordered}
use Rattle.lq_volume_entries.proofs.records.Records.fetch.Goals as goal

pub returns-clause-entries : goal.returns-clause-entries
returns-clause-entries g c = rw (← c.self.view_is) (finds-ordered c.self.inside.stored.entries _ _ _
    c.in_ok-entries.ensures.own c.in_ok-entries.ensures.finds
    c.sort_unstable_by_key.ensures.permutation
    (IsNonDecreasingBy-from_sort_by_key (λ e. e.node) _ c.sort_unstable_by_key.ensures.sorted
    (λ a r q k. search rules)))
