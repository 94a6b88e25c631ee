use Rattle.lq_server_slots.proofs.reading.Reading.read.Goals as goal

pub returns : goal.returns
returns g c = c.read_by.ensures
