use Rattle.std.proofs.Common.{◌≡◌, take}
use Rattle.lq_update.specs.Diff.{missing}
use Rattle.lq_tests.proofs.plain_step.missing.Given as goal

-- the entries so far that are not among the others
abbrev pub invariant-loop-entry : goal.invariant-loop-entry
invariant-loop-entry l = l.kept.items ≡ missing (take l.entry-index l.entries) l.others
