use Rattle.std.proofs.Common.{refl, ap, List, rules}
use Rattle.std.specs.Prelude.{Ok, Err}
use Rattle.lq_value.specs.declared.entry.Entry.{Entry}
use Rattle.lq_embed.specs.SessionState.{holds, with_entries}
use Rattle.lq_embed.proofs.FolderLemmas.{lists-made}
use Rattle.lq_embed.proofs.embedded.Embedded.children.Goals as goal

pub returns-in-Err : goal.returns-in-Err
returns-in-Err c = lists-made c.volume.result.now (Err c.in-Err.refusal) c.volume.ensures.volume
    c.in-Err.ensures.refused tt c.status.ensures refl refl

pub returns-in-Ok : goal.returns-in-Ok
returns-in-Ok c = lists-made c.volume.result.now (Ok c.in-Ok.entries.items) c.volume.ensures.volume
    c.in-Ok.ensures.refused c.in-Ok.ensures.children refl (search rules)
    (ap (λ (es : List Entry). with_entries (holds c.args.self.now) es) c.into_iter.ensures.rest)
