use Rattle.std.proofs.Common.{sym}
use Rattle.lq_volume_entries.proofs.AttributeLemmas.{with_attr-at, with_attr-new}
use Rattle.lq_volume_entries.proofs.attr_table.put.Goals as goal

pub returns-in_ok-push-in-None-clause-ok : goal.returns-in_ok-push-in-None-clause-ok
returns-in_ok-push-in-None-clause-ok c =
    rw (c.in_ok-push-in-None.ensures.items, c.in_ok-reserve_exact-in-None.ensures.items)
    (sym (with_attr-new _ _ _ (rw (← c.deref.ensures.value) c.in-None.ensures.none)))

pub returns-in-Some-clause-ok : goal.returns-in-Some-clause-ok
returns-in-Some-clause-ok c =
    with_attr-at _ _ _ _ c.requires (rw (← c.deref.ensures.value) c.in-Some.ensures.found)
