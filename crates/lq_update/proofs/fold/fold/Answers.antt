use Rattle.std.proofs.Common.{◌∙◌, ap, refl, sym}
use Rattle.lq_update.specs.Diff.{has_node}
use Rattle.lq_update.specs.Fold.{has_entry, message_entry, old_entry}
use Rattle.lq_update.specs.Place.{IsGapFor, IsTripleAt}
use Rattle.lq_update.proofs.EntryLemmas.{at-lacks, rises-filter, rises-put_in, rises-replaced}
use Rattle.lq_update.proofs.PlaceLemmas.{insert-gap, remove-triple, set-triple}
use Rattle.lq_update.proofs.fold.fold.Goals as goal

pub returns-in_ok-insert-in-Created-clause-ok : goal.returns-in_ok-insert-in-Created-clause-ok
returns-in_ok-insert-in-Created-clause-ok c =
    let gap : IsGapFor c.args.entries.now.items c.args.message.now.node c.in-Err.index =
    rw (← c.deref.ensures.value) c.in-Err.ensures.absent in
    rw c.in-Created.is (c.in_ok-insert-in-Created.ensures.items
    ∙ rw c.in_ok-entry-in-Created.ensures.value
    (insert-gap (message_entry c.args.message.now) _ _ gap))

pub returns-in_ok-insert-in-Created-clause-rise : goal.returns-in_ok-insert-in-Created-clause-rise
returns-in_ok-insert-in-Created-clause-rise c =
    rw (returns-in_ok-insert-in-Created-clause-ok c, c.in-Created.is)
    (rises-put_in (message_entry c.args.message.now) _ c.requires
    (at-lacks c.args.message.now.node c.args.entries.now.items
    (ap (has_node c.args.message.now.node) (sym c.deref.ensures.value) ∙ c.in-Err.ensures.has)))

pub returns-in-Some-clause-ok : goal.returns-in-Some-clause-ok
returns-in-Some-clause-ok c =
    let at : IsTripleAt c.args.entries.now.items (message_entry c.args.message.now)
    c.in-Some.index =
    rw (← c.deref-in-Removed.ensures.value) c.in-Some.ensures.found in
    rw c.in-Removed.is (c.remove.ensures.items ∙ remove-triple _ _ _ c.requires at)

pub returns-in-Some-clause-rise : goal.returns-in-Some-clause-rise
returns-in-Some-clause-rise c =
    rw (returns-in-Some-clause-ok c, c.in-Removed.is) (rises-filter _ _ c.requires)

pub returns-in_ok-entry-in-Moved-clause-ok : goal.returns-in_ok-entry-in-Moved-clause-ok
returns-in_ok-entry-in-Moved-clause-ok c =
    let old = old_entry c.in-Moved.from_dir c.in-Moved.from_name
    (message_entry c.args.message.now) in
    let at : IsTripleAt c.args.entries.now.items old c.in-Some-index_with.index =
    rw (← c.deref-in-Moved.ensures.value) c.in-Some-index_with.ensures.found in
    rw (c.in-Moved.is, c.in_ok-entry-in-Moved.ensures.value)
    (set-triple _ _ (message_entry c.args.message.now) _ c.requires at refl)

pub returns-in_ok-entry-in-Moved-clause-rise : goal.returns-in_ok-entry-in-Moved-clause-rise
returns-in_ok-entry-in-Moved-clause-rise c =
    let old = old_entry c.in-Moved.from_dir c.in-Moved.from_name
    (message_entry c.args.message.now) in
    rw (returns-in_ok-entry-in-Moved-clause-ok c, c.in-Moved.is)
    (rises-replaced (message_entry c.args.message.now) old c.args.entries.now.items c.requires
    (ap (has_entry old) (sym c.deref-in-Moved.ensures.value) ∙ c.in-Some-index_with.ensures.has)
    refl)
