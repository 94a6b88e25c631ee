use Rattle.std.proofs.Common.{rules}
use Rattle.std.proofs.lemmas.List.Sorted.{IsNonDecreasingBy-from_sort_by_key}
use Rattle.lq_volume_entries.proofs.ByNode.{pairs-ordered}
use Rattle.lq_volume_entries.proofs.records.Records.in_order.Goals as goal

pub returns-clause-records : goal.returns-clause-records
returns-clause-records c = rw (← c.self.view_is) (pairs-ordered c.self.inside.stored.entries _ _
    c.in_ok-records.ensures.own c.in_ok-records.ensures.pairs
    c.sort_unstable_by_key.ensures.permutation
    (IsNonDecreasingBy-from_sort_by_key (λ p. p.0) _ c.sort_unstable_by_key.ensures.sorted
    (λ a r q k. search rules)))
