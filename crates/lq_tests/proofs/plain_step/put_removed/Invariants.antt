use Rattle.std.proofs.Common.{◌≡◌, ◌++◌, map, take}
use Rattle.lq_update.specs.declared.message.Opcode.TheVariants.{Removed}
use Rattle.lq_tests.proofs.plain_step.put_removed.Given as goal

-- what is told of the entries so far
abbrev pub invariant-loop-entry : goal.invariant-loop-entry
invariant-loop-entry l = l.all.items
    ≡ l.fn.all.items ++ map (λ e. (Removed, e)) (take l.entry-index l.gone)
