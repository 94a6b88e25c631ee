use denote.Exit.{yes, no}
use denote.Param.{param}
use denote.Param.Send.{arg_send, param_send}
use Rattle.lq_script.proofs.ChangeLemmas.{on_err_any}
use Rattle.lq_script.proofs.Crossing.{read_task_send}
use Rattle.lq_script.proofs.ProgressLemmas.{front_same}
use Rattle.lq_script.proofs.batch.read_beside.Goals as goal

-- the reads of a slot may go to a thread
pub do_all-requires-send-T : goal.do_all-requires-send-T
do_all-requires-send-T g c κs within =
    param_send 2 _
    (arg_send _ no _
    (read_task_send _ (param 0 g.row.N) _ g.N.Named c.servers_may_be_shared.ensures
    c.type_bounds.sync-G
    record { owned = c.sends.ensures.owned; leaving = λ _. c.sends.ensures.leaving yes }
    record { owned = c.sends-2.ensures.owned; leaving = λ _. c.sends-2.ensures.leaving yes }))

pub returns-in_err-batch-clause-err : goal.returns-in_err-batch-clause-err
returns-in_err-batch-clause-err g c = on_err_any _ (front_same c.args.out.now.items)

pub returns-in_err-batch-2-clause-err : goal.returns-in_err-batch-2-clause-err
returns-in_err-batch-2-clause-err g c = on_err_any _ (front_same c.args.out.now.items)
