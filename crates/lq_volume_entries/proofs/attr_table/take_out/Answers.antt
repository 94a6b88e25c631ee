use Rattle.std.proofs.Common.{◌∙◌, sym}
use Rattle.lq_volume_entries.proofs.AttributeLemmas.{without_attr-at, without_attr-none}
use Rattle.lq_volume_entries.proofs.attr_table.take_out.Goals as goal

pub returns-in-Some : goal.returns-in-Some
returns-in-Some c =
    c.remove.ensures.items
    ∙ without_attr-at _ _ _ c.requires (rw (← c.deref.ensures.value) c.in-Some.ensures.found)

pub returns-in_default : goal.returns-in_default
returns-in_default c =
    sym (without_attr-none _ _ (rw (← c.deref.ensures.value) c.in_default.ensures.none))
