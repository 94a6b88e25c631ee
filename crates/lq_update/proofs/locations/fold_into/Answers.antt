use Rattle.std.proofs.Common.{ap, refl, sym, ◌∙◌}
use Rattle.lq_update.specs.Fold.{message_entry, old_entry}
use Rattle.lq_update.specs.Locations.{entries_of}
use Rattle.lq_update.proofs.EntryLemmas.{at-has_entry, rises-filter, rises-replaced}
use Rattle.lq_update.proofs.LocationLemmas.{insert-replaced, remove-taken}
use Rattle.lq_update.proofs.locations.fold_into.Goals as goal

pub returns-else-not-is_at-clause-ok : goal.returns-else-not-is_at-clause-ok
returns-else-not-is_at-clause-ok c =
    let e = message_entry c.args.message.now in
    rw c.in-Removed.is (ap entries_of c.remove.ensures.entries
    ∙ remove-taken c.args.locations.now.entries e c.requires
    (at-has_entry e _ c.requires (sym c.is_at.ensures ∙ c.if-not-is_at.false)))

pub returns-else-not-is_at-clause-rise : goal.returns-else-not-is_at-clause-rise
returns-else-not-is_at-clause-rise c =
    rw (returns-else-not-is_at-clause-ok c, c.in-Removed.is) (rises-filter _ _ c.requires)

pub returns-in_ok-insert-in-Moved-clause-ok : goal.returns-in_ok-insert-in-Moved-clause-ok
returns-in_ok-insert-in-Moved-clause-ok c =
    let old = old_entry c.in-Moved.from_dir c.in-Moved.from_name
    (message_entry c.args.message.now) in
    rw c.in-Moved.is (ap entries_of c.in_ok-insert-in-Moved.ensures.entries
    ∙ rw c.in_ok-location-in-Moved.ensures.value (insert-replaced _ old _ c.requires
    (at-has_entry old _ c.requires (sym c.is_at-in-Moved.ensures ∙ c.if-not-is_at-2.false))))

pub returns-in_ok-insert-in-Moved-clause-rise : goal.returns-in_ok-insert-in-Moved-clause-rise
returns-in_ok-insert-in-Moved-clause-rise c =
    rw (returns-in_ok-insert-in-Moved-clause-ok c, c.in-Moved.is)
    (rises-replaced (message_entry c.args.message.now) _ _ c.requires
    (sym c.is_at-in-Moved.ensures ∙ c.if-not-is_at-2.false) refl)
