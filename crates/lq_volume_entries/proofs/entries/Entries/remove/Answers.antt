use Rattle.std.proofs.Common.{sym}
use Rattle.lq_volume_entries.specs.PlaceIndex.{IsApart}
use Rattle.lq_volume_entries.proofs.PlaceLemmas.{node_in-absent}
use Rattle.lq_volume_entries.proofs.IndexLemmas.{index-taken}
use Rattle.lq_volume_entries.proofs.entries.Entries.remove.Goals as goal
use Rattle.lq_volume_entries.proofs.entries.Entries.remove.Goals.{in-Some, in_default}

pub invariant_of-self : goal.invariant_of-self
invariant_of-self c =
    let apart : IsApart c.self.inside.records = rw c.self.view_is c.requires in
    elim c.match-get.branch [
      | in-Some w ↦
          let takes = rw (
            w.dir-in-Some.ensures,
            w.name-in-Some.ensures,
            w.is_first-was_first.ensures,
            w.dir.ensures,
            w.name.ensures,
          ) at w.take.ensures in
          rw (w.self-inside-is, c.remove.ensures.left, w.self-inside-is)
          (index-taken _ _ _ _ _ c.get.ensures.rise apart (sym w.in-Some.ensures.record)
          c.self.invariant takes)
      | in_default w ↦
          rw (
            w.self-inside-is,
            c.remove.ensures.left,
            w.self-inside-is,
            node_in-absent _ _ (sym w.in_default.ensures.record),
          ) c.self.invariant
    ]
