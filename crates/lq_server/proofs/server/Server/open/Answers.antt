use Rattle.lq_server.proofs.server.Server.open.Goals as goal

pub returns-clause-table : goal.returns-clause-table
returns-clause-table g c = rw c.without_values-options.ensures at c.open_by.ensures.table
