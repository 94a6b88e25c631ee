use Rattle.lq_server_tests.proofs.scenario.play.Given as goal

abbrev pub ghosts-stage : goal.ghosts-stage
ghosts-stage g a = record { board = a.base.board; start = a.base.volume }
