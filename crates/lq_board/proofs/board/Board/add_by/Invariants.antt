-- The step adds the change that is passed, and the seat keeps its name.
use Rattle.std.proofs.Common.{Some}
use Rattle.lq_board.specs.View.{sitting_of}
use Rattle.lq_board.proofs.board.Board.add_by.Given as goal

abbrev pub ghosts-added : goal.ghosts-added
ghosts-added g a =
    record {
      slot = 0;
      name = (sitting_of a.token.me.0).name;
      change = Some a.change.now;
      openings = λ n. n;
    }
