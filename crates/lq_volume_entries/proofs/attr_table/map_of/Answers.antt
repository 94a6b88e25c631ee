use Rattle.std.proofs.Common.{◌≡◌, ◌∙◌}
use Rattle.indexmap.proofs.CallerLemmas.{Drains-YieldsInOrder}
use Rattle.lq_volume_entries.proofs.AttributeLemmas.{insert_all-own}
use Rattle.lq_volume_entries.proofs.attr_table.map_of.Goals as goal

pub returns-clause-value : goal.returns-clause-value
returns-clause-value c =
    let ran = c.in_ok-from_iter.ensures.ran in
    let end = ran.3.2 tt in
    let all : ran.1 ≡ c.args.list.items =
    Drains-YieldsInOrder _ _ ran.0 ran.1 ran.2.3 (end.0, (ran.3.0, ran.3.1, end.1)) ∙ ran.2.0 in
    rw all at ran.4.0 ∙ insert_all-own _ c.requires
