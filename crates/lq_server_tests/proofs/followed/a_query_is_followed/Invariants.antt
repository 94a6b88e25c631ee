use Rattle.lq_board.specs.Token.{counted_board}
use Rattle.lq_server_tests.proofs.followed.a_query_is_followed.Given as goal

abbrev pub ghosts-follow : goal.ghosts-follow
ghosts-follow g a = record { board = counted_board a.base.board; start = a.base.volume }
