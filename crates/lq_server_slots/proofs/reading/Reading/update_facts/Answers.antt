use Rattle.lq_server_slots.proofs.reading.Reading.update_facts.Goals as goal

pub returns : goal.returns
returns c = rw (← c.self.view_is) c.self.invariant.0
