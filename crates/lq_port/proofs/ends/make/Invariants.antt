-- The new port has the floor and the places that are passed.
use Rattle.lq_port.proofs.ends.make.Given as goal

abbrev pub ghost-make_at : goal.ghost-make_at
ghost-make_at g a = (a.places, a.floor.now)
