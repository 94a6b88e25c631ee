-- Each read appends its reply.
use Rattle.lq_script_desk.specs.Answer.{response_of}
use Rattle.lq_script.proofs.ChangeLemmas.{on_err_any}
use Rattle.lq_script.proofs.ProgressLemmas.{front_on, no_reads, reads_front, reads_more}
use Rattle.lq_script.proofs.batch.put_replies.Goals as goal

pub loop-slot-init : goal.loop-slot-init
loop-slot-init g c = no_reads c.args.out.now.items

pub loop-slot-preserved : goal.loop-slot-preserved
loop-slot-preserved g c =
    reads_more c.loop-slot.slot-index c.args.out.now.items c.loop-slot.out.items
    c.put_reply.new.out.items (response_of c.in_ok-response.response) c.loop-slot.invariant
    c.in_ok-response.ensures.none
    c.in_ok-put_reply.ensures.ok

pub returns-in_err-response-clause-err : goal.returns-in_err-response-clause-err
returns-in_err-response-clause-err g c =
    on_err_any _ (reads_front c.loop-slot.slot-index c.args.out.now.items c.loop-slot.out.items
    c.loop-slot.invariant)

pub returns-in_err-put_reply-clause-err : goal.returns-in_err-put_reply-clause-err
returns-in_err-put_reply-clause-err g c =
    on_err_any _ (front_on c.args.out.now.items c.loop-slot.out.items c.put_reply.new.out.items
    (reads_front c.loop-slot.slot-index c.args.out.now.items c.loop-slot.out.items
    c.loop-slot.invariant)
    c.in_err-put_reply.ensures.err)
