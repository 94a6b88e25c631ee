-- The change that was made is the one that was asked, or it was refused as the volume refuses it.
use Rattle.std.proofs.Common.{rules, ◌≡◌, Err}
use Rattle.lq_script.proofs.AnswerLemmas.{answers_change, change_refused}
use Rattle.lq_script.proofs.server_session.ServerSession.change.Goals as goal

pub returns-in_err-applied-clause-refused : goal.returns-in_err-applied-clause-refused
returns-in_err-applied-clause-refused g c =
    let e = c.in_err-applied.field-0.0 in
    let is : c.from_residual.result ≡ Err e = search rules in
    rw is (change_refused _ _ c.args.change.now e c.in_err-applied.ensures.err
    c.in_err-applied.ensures.refused)

pub returns-clause-replied : goal.returns-clause-replied
returns-clause-replied g c =
    answers_change _ _ c.in_ok-applied.applied c.args.change.now c.in_ok-applied.ensures.made
    c.in_ok-applied.ensures.added
