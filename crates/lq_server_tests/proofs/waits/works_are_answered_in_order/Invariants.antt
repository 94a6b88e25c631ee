use Rattle.lq_server_tests.proofs.waits.works_are_answered_in_order.Given as goal

abbrev pub ghosts-look_thrice : goal.ghosts-look_thrice
ghosts-look_thrice g a = record { board = a.base.board; start = a.base.volume }
