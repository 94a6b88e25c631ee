use Rattle.lq_board.specs.Token.{counted_board}
use Rattle.lq_script.proofs.threads.run_threads.Given as goal

-- N names the counted board of the base.
abbrev pub ghosts-serve : goal.ghosts-serve
ghosts-serve g a = record { board = counted_board a.base.board; start = a.base.volume }
