use Rattle.std.proofs.Common.{◌≡◌, ◌∙◌, refl, ap, rules}
use Rattle.std.specs.Prelude.{Ok, Err, unwrap_or}
use Rattle.lq_value.specs.declared.refusal.Refusal.TheVariants.{NoMemory}
use Rattle.lq_value.specs.Refusal.{first_refusal}
use Rattle.lq_volume.specs.Lookup.{path_refusals}
use Rattle.lq_embed.specs.Folders.{path_text}
use Rattle.lq_embed.proofs.FolderLemmas.{paths-made}
use Rattle.lq_embed.proofs.embedded.Embedded.path.Goals as goal

pub returns-in-Err : goal.returns-in-Err
returns-in-Err c = paths-made c.volume.result.now (Err c.in-Err.refusal) c.volume.ensures.volume
    c.in-Err.ensures.refused tt c.status.ensures refl refl

pub returns-in_default : goal.returns-in_default
returns-in_default c =
    let none : NoMemory ≡ unwrap_or (first_refusal (path_refusals c.volume.result.now c.args.node))
    NoMemory = rw c.in-Ok.ensures.refused.0 refl in
    paths-made c.volume.result.now (Err NoMemory) c.volume.ensures.volume (tt, none) tt
    c.status-in_default.ensures refl refl

pub returns : goal.returns
returns c =
    let same : c.deref.result.now ≡ c.in-Ok.names.items = search rules in
    paths-made c.volume.result.now (Ok c.in-Ok-text_of.text.items) c.volume.ensures.volume
    c.in-Ok.ensures.refused (
      c.in-Ok.names.items,
      (
        c.in-Ok.ensures.path,
        c.in-Ok-text_of.ensures.value ∙ ap path_text same,
      ),
    ) refl (search rules) refl
