use Rattle.lq_volume_entries.specs.Edits.{at_place}
use Rattle.lq_volume_entries.proofs.ByNode.{by_node-absent, by_node-altered, Rises-by_node}
use Rattle.lq_volume_entries.proofs.records.Records.relocate.Goals as goal
use Rattle.lq_volume_entries.proofs.records.Records.relocate.Goals.{in-Some, in_default}

pub invariant_of-self : goal.invariant_of-self
invariant_of-self c = elim c.match-get_mut.branch [
  | in-Some w ↦ rw w.self-inside-is
      (Rises-by_node _ (c.get_mut.follows.holds w.relocate.new.self).4)
  | in_default w ↦ rw (w.self-inside-is, c.get_mut.follows.holds-at-none) c.self.invariant
]

pub returns : goal.returns
returns c = elim c.match-get_mut.branch [
  | in-Some w ↦
      let end = c.get_mut.follows.holds w.relocate.new.self in
      rw (w.self-inside-is, ← c.self.view_is) (by_node-altered _ _ _ _ _ _ w.relocate.ensures
      c.self.invariant end.4 w.in-Some.ensures.value (λ there n. (end.3 there).0 n))
  | in_default w ↦ rw (w.self-inside-is, c.get_mut.follows.holds-at-none, ← c.self.view_is)
      (by_node-absent c.self.inside.stored.entries c.args.node (at_place c.args.dir c.args.name)
      w.in_default.ensures.value)
]
