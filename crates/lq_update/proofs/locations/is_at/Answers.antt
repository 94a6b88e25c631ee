use Rattle.std.proofs.Common.{sym, arith}
use Rattle.std.proofs.lemmas.Bool.Decides.{nat_tests}
use Rattle.lq_value.specs.declared.entry.Entry.{Entry}
use Rattle.lq_update.proofs.LocationLemmas.{has_entry-none, has_entry-some}
use Rattle.lq_update.proofs.locations.is_at.Goals as goal

pub returns-in-None : goal.returns-in-None
returns-in-None c =
    sym (has_entry-none _ c.args.locations.now.entries c.requires (sym c.in-None.ensures.value))

pub returns-then-dir-location : goal.returns-then-dir-location
returns-then-dir-location c =
    let e : Entry = record { dir = c.args.dir; name = c.args.name.now; node = c.args.node } in
    let some = has_entry-some e c.args.locations.now.entries c.in-Some.location.now c.requires
    (sym c.in-Some.ensures.value) in
    grind (arith, nat_tests, c.eq.ensures)

pub returns-else-dir-location : goal.returns-else-dir-location
returns-else-dir-location c =
    let e : Entry = record { dir = c.args.dir; name = c.args.name.now; node = c.args.node } in
    let some = has_entry-some e c.args.locations.now.entries c.in-Some.location.now c.requires
    (sym c.in-Some.ensures.value) in
    grind (arith, nat_tests)
