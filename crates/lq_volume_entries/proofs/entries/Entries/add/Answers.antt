use Rattle.std.proofs.Common.{◌∙◌, ◌<◌}
use Rattle.std.specs.List.{AllByRecursion}
use Rattle.lq_volume_entries.proofs.IndexLemmas.{index-same, index-added, filter-added}
use Rattle.lq_volume_entries.proofs.entries.Entries.add.Goals as goal

pub invariant_of-self-in-Ok-put : goal.invariant_of-self-in-Ok-put
invariant_of-self-in-Ok-put c =
    let puts = rw (c.dir-dir.ensures, c.in_ok-name.ensures.value, c.name.ensures)
    at c.in-Ok-put.ensures.ok in
    rw c.in-Ok.ensures.ok (index-added _ _ _ _ _ c.self.invariant
    (rw c.self.view_is c.requires.last) (rw c.self.view_is c.requires.free) puts)

pub invariant_of-self-in-Err-put : goal.invariant_of-self-in-Err-put
invariant_of-self-in-Err-put c =
    let last : AllByRecursion (λ e. e.0 < c.args.node) c.self.inside.records =
    rw c.self.view_is c.requires.last in
    rw (c.remove.ensures.left, c.in-Ok.ensures.ok, filter-added _ _ _ last)
    (index-same _ _ _ c.in-Err-put.ensures.err c.self.invariant)

pub returns-clause-err : goal.returns-clause-err
returns-clause-err c =
    let last : AllByRecursion (λ e. e.0 < c.args.node) c.self.inside.records =
    rw c.self.view_is c.requires.last in
    rw (c.remove.ensures.left, c.in-Ok.ensures.ok) (filter-added _ _ _ last ∙ c.self.view_is)

pub invariant_of-self : goal.invariant_of-self
invariant_of-self c = rw c.in-Err.ensures.err c.self.invariant

pub returns-in-Ok-put-clause-ok : goal.returns-in-Ok-put-clause-ok
returns-in-Ok-put-clause-ok c = rw (← c.self.view_is) c.in-Ok.ensures.ok
