use Rattle.lq_board.specs.Token.{counted_board}
use Rattle.lq_server_tests.proofs.seats.a_leading_seat_is_one_of_the_16.Given as goal

abbrev pub ghosts-seats_beside_a_leading_one : goal.ghosts-seats_beside_a_leading_one
ghosts-seats_beside_a_leading_one g a = record {
  board = counted_board a.base.board;
  start = a.base.volume;
}
