use Rattle.std.proofs.Common.{ap}
use Rattle.std.proofs.lemmas.Result.{err_from_is_err_and}
use Rattle.lq_desk.specs.DeskState.{DeskState, changed}
use Rattle.lq_desk.proofs.Desks.{IsKept-change, few-desk}
use Rattle.lq_desk.proofs.engine.Engine.change.Goals as goal

pub invariant_of-self : goal.invariant_of-self
invariant_of-self c = rw c.prepare.ensures.kept c.self.invariant

pub returns-in_err-prepared-clause-err : goal.returns-in_err-prepared-clause-err
returns-in_err-prepared-clause-err c =
    let p = err_from_is_err_and c.from_residual-in_err-prepared.result
    c.from_residual-in_err-prepared.ensures.1 in
    rw (p.1, c.prepare.ensures.kept) c.self.view_is

pub invariant_of-self-in_err-applied : goal.invariant_of-self-in_err-applied
invariant_of-self-in_err-applied c =
    rw (c.in_err-applied.ensures.err, c.prepare.ensures.kept) c.self.invariant

pub returns-in_err-applied-clause-err : goal.returns-in_err-applied-clause-err
returns-in_err-applied-clause-err c =
    let p = err_from_is_err_and c.from_residual-in_err-applied.result
    c.from_residual-in_err-applied.ensures.1 in
    rw (p.1, c.in_err-applied.ensures.err, c.prepare.ensures.kept) c.self.view_is

pub commit-requires : goal.commit-requires
commit-requires c = record {
  few = rw c.prepare.ensures.kept (few-desk _ c.changes.ensures.volume c.self.invariant);
}

pub invariant_of-self-2 : goal.invariant_of-self-2
invariant_of-self-2 c =
    rw (
      c.commit.ensures c.in_ok-planned.planned.before c.in_ok-planned.planned.change
          c.in_ok-prepared.ensures.prepared,
      c.prepare.ensures.kept,
      c.in_ok-planned.ensures.value,
      c.in_ok-applied.ensures.ok,
    )
    (IsKept-change c.steps_are_few.ensures c.changes_are_counted.ensures _ c.args.change.now
    c.self.invariant c.changes.ensures.volume c.in_ok-planned.ensures.ok)

pub returns-clause-ok : goal.returns-clause-ok
returns-clause-ok c =
    rw (
      c.commit.ensures c.in_ok-planned.planned.before c.in_ok-planned.planned.change
          c.in_ok-prepared.ensures.prepared,
      c.prepare.ensures.kept,
      c.in_ok-planned.ensures.value,
      c.in_ok-applied.ensures.ok,
    )
    (ap (λ (k : DeskState). changed k c.args.change.now) c.self.view_is)
