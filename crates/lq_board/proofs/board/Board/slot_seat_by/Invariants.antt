-- The seat keeps its name, and one opening more was made for it. The step gives out the seat of the
-- slot that is passed, under the caller's name.
use Rattle.std.proofs.Common.{◌+◌, Some, None}
use Rattle.lq_board.specs.View.{sitting_of}
use Rattle.lq_board.proofs.board.Board.slot_seat_by.Given as goal

abbrev pub ghosts-met : goal.ghosts-met
ghosts-met g a =
    record {
      slot = 0;
      name = (sitting_of a.token.me.0).name;
      change = None;
      openings = λ n. n + 1;
    }

abbrev pub ghosts-slot_token : goal.ghosts-slot_token
ghosts-slot_token g a =
    record {
      slot = a.slot;
      name = Some g.name;
      change = None;
      openings = λ n. n;
    }
