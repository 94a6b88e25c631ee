use Rattle.std.proofs.Common.{◌≡◌, ◌++◌, map, take}
use Rattle.lq_update.specs.declared.message.Opcode.TheVariants.{Created}
use Rattle.lq_tests.proofs.plain_step.put_created.Given as goal

-- what is told of the entries so far
abbrev pub invariant-loop-entry : goal.invariant-loop-entry
invariant-loop-entry l = l.all.items
    ≡ l.fn.all.items ++ map (λ e. (Created, e)) (take l.entry-index l.come)
