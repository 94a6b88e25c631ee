use Rattle.std.proofs.Common.{◌≡◌, true}
use Rattle.lq_server_tests.proofs.seats.seats_beside_a_leading_one.Given as goal

-- the leading seat leads on while it enlists seats
abbrev pub invariant-loop : goal.invariant-loop
invariant-loop g l = record {
  board : l.head.board ≡ l.initial.head.board;
  slot : l.head.slot ≡ 0;
  leads : l.head.author.leads ≡ true;
}
