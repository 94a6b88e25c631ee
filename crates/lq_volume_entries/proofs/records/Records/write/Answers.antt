use Rattle.std.proofs.Common.{refl}
use Rattle.std.proofs.Math.Facts.{to_z-of_z}
use Rattle.lq_volume_entries.specs.Edits.{rewritten}
use Rattle.lq_volume_entries.proofs.ByNode.{by_node-absent, by_node-altered, Rises-by_node}
use Rattle.lq_volume_entries.proofs.records.Records.write.Goals as goal
use Rattle.lq_volume_entries.proofs.records.Records.write.Goals.{in-Some, in_default}

pub invariant_of-self : goal.invariant_of-self
invariant_of-self c = elim c.match-get_mut.branch [
  | in-Some w ↦ rw w.self-inside-is
      (Rises-by_node _ (c.get_mut.follows.holds w.write.new.self).4)
  | in_default w ↦ rw (w.self-inside-is, c.get_mut.follows.holds-at-none) c.self.invariant
]

pub returns : goal.returns
returns c = elim c.match-get_mut.branch [
  | in-Some w ↦
      let end = c.get_mut.follows.holds w.write.new.self in
      rw (w.self-inside-is, ← c.self.view_is) (by_node-altered _ _ _ _ _ _
      (rw (w.write.ensures, to_z-of_z c.ranges.time) refl) c.self.invariant end.4
      w.in-Some.ensures.value (λ there n. (end.3 there).0 n))
  | in_default w ↦ rw (w.self-inside-is, c.get_mut.follows.holds-at-none, ← c.self.view_is)
      (by_node-absent c.self.inside.stored.entries c.args.node (rewritten c.args.size c.args.time)
      w.in_default.ensures.value)
]
