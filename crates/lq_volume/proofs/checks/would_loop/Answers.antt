use Rattle.std.proofs.Common.{◌≡◌, ◌∙◌, sym, ap, false}
use Rattle.std.specs.Prelude.{Option}
use Rattle.std.specs.Option.{option_map_or}
use Rattle.lq_value.specs.declared.kind.Kind.{Kind}
use Rattle.lq_volume_entries.specs.Kind.{is_folder}
use Rattle.lq_volume.specs.State.{is_folder_at}
use Rattle.lq_volume.proofs.Tree.{reaches-file}
use Rattle.lq_volume.proofs.checks.would_loop.Goals as goal

pub returns-else-is_folder : goal.returns-else-is_folder
returns-else-is_folder c =
    let s = c.args.volume.now in
    let kind = ap (λ (k : Option Kind). option_map_or is_folder k false) c.requires.kind in
    let file : is_folder_at s c.args.moved ≡ false = kind
    ∙ (sym c.is_folder.ensures ∙ c.if-is_folder.false) in
    c.if-is_folder.false
    ∙ sym (reaches-file s c.args.moved c.args.dir c.changes.ensures.volume.tree file c.requires.dir)
