use Rattle.std.proofs.Common.{sym, ◌∙◌}
use Rattle.lq_volume_entries.specs.PlaceIndex.{CanMoveEntry}
use Rattle.lq_volume_entries.proofs.IndexLemmas.{index-same}
use Rattle.lq_volume_entries.proofs.IndexMoves.{index-moved, index-stays}
use Rattle.lq_volume_entries.proofs.entries.Entries.move_entry.Goals as goal
use Rattle.lq_volume_entries.proofs.entries.Entries.move_entry.Goals.{in-Some+then-not-is_at+in_ok-put, in-Some+else-not-is_at, in_default}

pub invariant_of-self-2 : goal.invariant_of-self-2
invariant_of-self-2 c =
    let moves :
    CanMoveEntry c.self.inside.records c.args.node c.args.dir c.args.name.now c.args.other =
    rw c.self.view_is c.requires in
    let kept = c.in_ok-kept.ensures.value in
    elim c.match-get.branch [
      | in-Some+then-not-is_at+in_ok-put w ↦
          let takes = rw (
            w.dir-then-not-is_at.ensures,
            w.name-then-not-is_at.ensures,
            w.is_first-was_first.ensures,
            w.dir.ensures,
            w.name.ensures,
          ) at w.take.ensures in
          let away = sym w.is_at.ensures ∙ w.if-not-is_at.true in
          rw (w.self-inside-is, c.relocate.ensures, c.remove_if.ensures, kept, w.self-inside-is)
          (index-moved _ _ _ _ _ _ _ _ _ c.get.ensures.rise moves (sym w.in-Some.ensures.record)
          c.self.invariant w.in_ok-put.ensures.ok takes away)
      | in-Some+else-not-is_at w ↦
          rw (w.self-inside-is, c.relocate.ensures, c.remove_if.ensures, kept, w.self-inside-is)
          (index-stays _ _ _ _ _ _ _ c.get.ensures.rise moves (sym w.in-Some.ensures.record)
          c.self.invariant (sym w.is_at.ensures ∙ w.if-not-is_at.false))
      | in_default w ↦ let clash = rw (← w.in_default.ensures.record) at moves.there in absurd cc
    ]

pub invariant_of-self : goal.invariant_of-self
invariant_of-self c = index-same _ _ _ c.in_err-put.ensures.err c.self.invariant
