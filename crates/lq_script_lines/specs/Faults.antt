-- The faults of a run, told apart.
use Rattle.std.specs.Prelude.{Bool, true, false}
use Rattle.lq_script_lines.specs.declared.run_fault.RunFault.{RunFault}
use Rattle.lq_script_lines.specs.declared.run_fault.RunFault.TheVariants.{Limit, Memory, Read, Thread, Write}

-- whether a fault is the writer's
abbrev pub is_write : RunFault → Bool
is_write Read = false
is_write Write = true
is_write Limit = false
is_write Memory = false
is_write Thread = false
