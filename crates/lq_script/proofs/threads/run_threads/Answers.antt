-- What the server of the script left is what the run tells.
use Rattle.std.proofs.Common.{◌≡◌, ◌∙◌, refl, sym}
use Rattle.lq_script_lines.specs.declared.run_fault.RunFault.TheVariants.{Memory, Write}
use Rattle.lq_script.proofs.ProgressLemmas.{tells_none}
use Rattle.lq_script.proofs.threads.run_threads.Goals as goal

pub returns-in_default : goal.returns-in_default
returns-in_default g c = record {
  cause = λ is.
      absurd (let bad : Memory ≡ Write = sym c.out_of_memory.ensures.fault ∙ is in cc);
  changes = tells_none _ _ _ _ c.out_of_memory.ensures.fault c.out_of_memory.ensures.bytes refl;
}
