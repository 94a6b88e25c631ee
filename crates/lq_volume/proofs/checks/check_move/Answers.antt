use Rattle.std.proofs.Common.{◌∙◌, refl, sym, None, Some}
use Rattle.lq_value.specs.declared.refusal.Refusal.TheVariants.{Exists, KindClash, NotEmpty, WouldLoop}
use Rattle.lq_volume.proofs.Rows.{by-later, filled-is, kinds-differ}
use Rattle.lq_volume.proofs.checks.check_move.Goals as goal
use Rattle.lq_volume.proofs.checks.check_move.Goals.{in-Some+else-not-clobber+else-is_folder+else-is_filled, in_default}

pub returns-then-would_loop-clause-err : goal.returns-then-would_loop-clause-err
returns-then-would_loop-clause-err c =
    by-later c.args.volume.now c.args.moved c.args.dir c.args.name.now c.args.clobber
    c.in_ok-record.ensures.ok c.in_ok-check_folder.ensures.ok _ (Some WouldLoop) refl
    (rw (sym c.would_loop.ensures ∙ c.if-would_loop.true))

pub returns-then-not-clobber-clause-err : goal.returns-then-not-clobber-clause-err
returns-then-not-clobber-clause-err c =
    by-later c.args.volume.now c.args.moved c.args.dir c.args.name.now c.args.clobber
    c.in_ok-record.ensures.ok c.in_ok-check_folder.ensures.ok
    (Some c.in-Some.node) (Some Exists) c.in-Some.ensures.node
    (rw (sym c.would_loop.ensures ∙ c.if-would_loop.false, c.if-not-clobber.true))

pub returns-then-is_folder-clause-err : goal.returns-then-is_folder-clause-err
returns-then-is_folder-clause-err c =
    let kinds = kinds-differ c.args.volume.now c.in-Some.node c.args.moved _ _ _ _ _
    c.in-Some.ensures.kind c.in_ok-record.ensures.kind
    c.is_folder.ensures c.is_folder-in-Some.ensures c.if-is_folder.true in
    by-later c.args.volume.now c.args.moved c.args.dir c.args.name.now c.args.clobber
    c.in_ok-record.ensures.ok c.in_ok-check_folder.ensures.ok
    (Some c.in-Some.node) (Some KindClash) c.in-Some.ensures.node
    (rw (sym c.would_loop.ensures ∙ c.if-would_loop.false, c.if-not-clobber.false, kinds))

pub returns-then-is_filled-clause-err : goal.returns-then-is_filled-clause-err
returns-then-is_filled-clause-err c =
    let kinds = kinds-differ c.args.volume.now c.in-Some.node c.args.moved _ _ _ _ _
    c.in-Some.ensures.kind c.in_ok-record.ensures.kind
    c.is_folder.ensures c.is_folder-in-Some.ensures c.if-is_folder.false in
    let filled = filled-is c.args.volume.now c.in-Some.node _ _ _
    c.in-Some.ensures.kind c.is_filled.ensures c.if-is_filled.true in
    by-later c.args.volume.now c.args.moved c.args.dir c.args.name.now c.args.clobber
    c.in_ok-record.ensures.ok c.in_ok-check_folder.ensures.ok
    (Some c.in-Some.node) (Some NotEmpty) c.in-Some.ensures.node
    (rw (sym c.would_loop.ensures ∙ c.if-would_loop.false, c.if-not-clobber.false, kinds, filled))

pub returns-clause-ok : goal.returns-clause-ok
returns-clause-ok c =
    let below = sym c.would_loop.ensures ∙ c.if-would_loop.false in
    let decide = by-later c.args.volume.now c.args.moved c.args.dir c.args.name.now c.args.clobber
    c.in_ok-record.ensures.ok c.in_ok-check_folder.ensures.ok in
    elim c.match-other.branch [
      | in-Some+else-not-clobber+else-is_folder+else-is_filled w ↦
          let kinds = kinds-differ c.args.volume.now w.in-Some.node c.args.moved _ _ _ _ _
          w.in-Some.ensures.kind c.in_ok-record.ensures.kind
          w.is_folder.ensures w.is_folder-in-Some.ensures w.if-is_folder.false in
          let filled = filled-is c.args.volume.now w.in-Some.node _ _ _
          w.in-Some.ensures.kind w.is_filled.ensures w.if-is_filled.false in
          decide (Some w.in-Some.node) None w.in-Some.ensures.node
          (rw (below, w.if-not-clobber.false, kinds, filled))
      | in_default w ↦ decide None None w.in_default.ensures.node (rw below)
    ]

pub returns-clause-found : goal.returns-clause-found
returns-clause-found c = record {
  stored = sym c.in_ok-record.ensures.record;
  other = c.other_in-other.ensures.node;
  gone = c.other_in-other.ensures.record;
}
