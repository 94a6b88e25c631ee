-- No slot was out, so the opening is refused by its numbers and the volume's limit alone.
use Rattle.std.proofs.Common.{rules, ◌∙◌, Ok}
use Rattle.lq_server.proofs.OwnLemmas.{first_opening}
use Rattle.lq_server.proofs.server.Server.counted_with_reader.Goals as goal

pub returns-in_err-opened-clause-refused : goal.returns-in_err-opened-clause-refused
returns-in_err-opened-clause-refused g c =
    let over = c.open.ensures.over in
    first_opening over.0 c.open.new.seat.book g.N.Named.start c.args.port c.args.backlog
    c.from_residual.result over.2.stands
    (over.1.openings ∙ c.seat_by.ensures.gives.same.openings
    ∙ c.into_counted-board.ensures.openings)
    (search rules)

pub returns-clause-refused : goal.returns-clause-refused
returns-clause-refused g c =
    let over = c.in_ok-opened.ensures.over in
    first_opening over.0 c.open.new.seat.book g.N.Named.start c.args.port c.args.backlog
    (Ok c.in_ok-opened.opened) over.2.stands
    (over.1.openings ∙ c.seat_by.ensures.gives.same.openings
    ∙ c.into_counted-board.ensures.openings)
    (rw c.without_values-options.ensures at over.2.answered.table)
