use Rattle.std.proofs.Common.{arith, false, rules, ◌+◌, ◌-◌, ◌==◌, ◌≡◌}
use Rattle.lq_desk_sub.specs.SlotTable.{first_free}
use Rattle.lq_server_slots.proofs.OpenLemmas.{first_is_free, first_not_all, opening_fits, sizes_fit}
use Rattle.lq_server_slots.proofs.open.slot_for.Goals as goal

pub returns-clause-answered : goal.returns-clause-answered
returns-clause-answered c =
    let i = c.in-Some.index.index in
    let within = c.in-Some.index.within in
    let wide = c.requires.wide in
    let first = first_is_free c.args.slots.now.subscriptions i c.in-Some.ensures
    (omega (arith, within, wide)) in
    let same : i + 1 - 1 ≡ i = omega arith in
    let full : false ≡ (first_free c.args.slots.now.subscriptions == 64) =
    first_not_all i _ c.in-Some.ensures within in
    let free = rw (← same) at first.0 in
    let lowest = rw (← same) at first.1 in
    search (rules, arith, opening_fits, sizes_fit)
