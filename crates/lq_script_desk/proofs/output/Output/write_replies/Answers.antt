-- Where the writer failed, it took a front of what waited.
use Rattle.lq_script_desk.proofs.WritesLemmas.{puts_waiting}
use Rattle.lq_script_desk.proofs.output.Output.write_replies.Goals as goal

pub returns-clause-put : goal.returns-clause-put
returns-clause-put g c =
    let done = c.write_replies.ensures in
    puts_waiting c.write_replies.result _ _ c.args.self.now.replies.items _ done.ok done.empty
    done.err done.fault
