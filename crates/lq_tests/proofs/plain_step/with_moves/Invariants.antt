use Rattle.std.proofs.Common.{◌≡◌, filter, map, take}
use Rattle.std.specs.Prelude.{not}
use Rattle.std.specs.List.{list_any}
use Rattle.lq_update.specs.Diff.{as_moved, is_move}
use Rattle.lq_tests.proofs.plain_step.with_moves.Given as goal

-- what becomes of the messages so far
abbrev pub invariant-loop-message : goal.invariant-loop-message
invariant-loop-message l = l.kept.items
    ≡ map (as_moved l.all)
    (filter (λ m. not (list_any (is_move m) l.all)) (take l.message-index l.all))
