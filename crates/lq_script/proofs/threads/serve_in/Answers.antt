-- A run that never begins makes no change.
use Rattle.std.proofs.Common.{refl}
use Rattle.lq_script.proofs.ProgressLemmas.{tells_never}
use Rattle.lq_script.proofs.threads.serve_in.Goals as goal

pub returns-in_default-clause-made : goal.returns-in_default-clause-made
returns-in_default-clause-made g c =
    tells_never c.args.seat c.out_of_memory.result _ _ _ c.out_of_memory.ensures.fault
    c.out_of_memory.ensures.bytes refl
