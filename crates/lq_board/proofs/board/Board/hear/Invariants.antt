-- The seat keeps its name.
use Rattle.std.proofs.Common.{None}
use Rattle.lq_board.specs.View.{sitting_of}
use Rattle.lq_board.proofs.board.Board.hear.Given as goal

abbrev pub ghosts-heard : goal.ghosts-heard
ghosts-heard g a =
    record {
      slot = 0;
      name = (sitting_of a.token.me.0).name;
      change = None;
      openings = λ n. n;
    }
