use Rattle.std.proofs.Common.{eqb, rules}
use Rattle.std.specs.Cmp.Lexicographic.{slice_cmp}
use Rattle.std.specs.Ordering.{is_lt, nat_cmp}
use Rattle.std.proofs.lemmas.Cmp.{nat_list_cmp_total}
use Rattle.std.proofs.lemmas.List.Filters.{dedup_is}
use Rattle.std.proofs.lemmas.List.Kept.{Contains-dedup_nat}
use Rattle.std.proofs.lemmas.List.MinMax.{ranks_by}
use Rattle.std.proofs.lemmas.List.Sorted.{Contains-permutation, answers_always}
use Rattle.std.proofs.lemmas.Map.Keys.{IsStrictlyIncreasing-dedup}
use Rattle.lq_value.specs.declared.entry.Entry.{Entry}
use Rattle.lq_volume_entries.proofs.Folders.{has-nodes}
use Rattle.lq_volume_entries.proofs.entries.Entries.children.Goals as goal

pub entries_in-requires-clause-rise : goal.entries_in-requires-clause-rise
entries_in-requires-clause-rise c = rw c.self.view_is c.requires.rise

pub entries_in-requires-clause-nodes : goal.entries_in-requires-clause-nodes
entries_in-requires-clause-nodes c =
    let left = dedup_is eqb _ _ c.dedup.ensures.filtered in
    rw (c.deref.ensures.value, left)
    (IsStrictlyIncreasing-dedup _ c.sort_unstable.ensures.sorted)

pub entries_in-requires-clause-all : goal.entries_in-requires-clause-all
entries_in-requires-clause-all c = λ n r found same.
    let left = dedup_is eqb _ _ c.dedup.ensures.filtered in
    rw (c.deref.ensures.value, left) (Contains-dedup_nat c.sort_unstable.new.self.items n
    (Contains-permutation c.in_ok-nodes.nodes.items c.sort_unstable.new.self.items n
    c.sort_unstable.ensures.permutation
    (has-nodes c.self.inside.places c.self.inside.records c.args.dir c.in_ok-nodes.nodes.items
    c.self.invariant (rw c.self.view_is c.requires.rise) (rw c.self.view_is c.requires.apart)
    c.in_ok-nodes.ensures.first c.in_ok-nodes.ensures.others n r found same)))

pub returns-clause-children : goal.returns-clause-children
returns-clause-children c = record {
  all =
      rw (← c.self.view_is, ← c.in_ok-entries.ensures.entries)
      c.sort_unstable_by.ensures.permutation;
  rise = c.sort_unstable_by.ensures.sorted
      (λ a b. is_lt (slice_cmp nat_cmp a.name b.name))
      (ranks_by nat_list_cmp_total (λ (e : Entry). e.name))
      (answers_always _ _ _ (λ f a r g h. search rules));
}
