use Rattle.lq_board.specs.Token.{counted_board}
use Rattle.lq_server_tests.proofs.seats.a_counted_server_counts_a_readers_seat.Given as goal

abbrev pub ghosts-counted : goal.ghosts-counted
ghosts-counted g a = record { board = counted_board a.base.board; start = a.base.volume }
