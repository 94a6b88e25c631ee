use Rattle.std.proofs.Common.{◌≡◌, ap, refl, sym, ◌∙◌, true, false}
use Rattle.std.specs.Prelude.{is_some}
use Rattle.lq_update.specs.Diff.{has_node}
use Rattle.lq_update.specs.Locations.{entries_of}
use Rattle.lq_update.proofs.LocationLemmas.{has_node-lookup, insert-back, insert-put}
use Rattle.lq_update.proofs.EntryLemmas.{at-lacks, rises-put_in}
use Rattle.lq_update.proofs.locations.put.Goals as goal

-- where nothing stood under the node it wasn't there
lacking : (c : goal.In-Ok-None)
    → has_node c.args.message.now.node (entries_of c.args.locations.now.entries) ≡ false
lacking c = has_node-lookup c.args.message.now.node c.args.locations.now.entries
    ∙ ap is_some (sym c.in-Ok-None.ensures.old ∙ c.in-Ok-None.field-0-is)

-- where a location stood there it was
having : (c : goal.After-put_back)
    → has_node c.args.message.now.node (entries_of c.args.locations.now.entries) ≡ true
having c = has_node-lookup c.args.message.now.node c.args.locations.now.entries
    ∙ ap is_some (sym c.in-Ok-Some.ensures.old ∙ c.in-Ok-Some.field-0-is)

-- the locations are what they were
same : (c : goal.After-put_back)
    → c.put_back.new.locations.entries ≡ c.args.locations.now.entries
same c = c.put_back.ensures ∙ rw c.in-Ok-Some.ensures.entries
    (insert-back c.args.locations.now.entries c.args.message.now.node c.in-Ok.location
    c.in-Ok-Some.before c.requires (sym c.in-Ok-Some.ensures.old ∙ c.in-Ok-Some.field-0-is))

pub returns-in-Ok-None-clause-refused : goal.returns-in-Ok-None-clause-refused
returns-in-Ok-None-clause-refused c = rw (lacking c) (refl, tt)

pub returns-in-Ok-None-clause-ok : goal.returns-in-Ok-None-clause-ok
returns-in-Ok-None-clause-ok c = ap entries_of c.in-Ok-None.ensures.entries
    ∙ rw c.in-Ok.ensures.value
    (insert-put c.args.locations.now.entries c.args.message.now.node
    (record { dir = c.args.message.now.dir; name = c.args.message.now.name }) (lacking c))

pub returns-in-Ok-None-clause-rise : goal.returns-in-Ok-None-clause-rise
returns-in-Ok-None-clause-rise c = rw (returns-in-Ok-None-clause-ok c)
    (rises-put_in _ _ c.requires (at-lacks c.args.message.now.node _ (lacking c)))

pub returns-in-Ok-Some-clause-refused : goal.returns-in-Ok-Some-clause-refused
returns-in-Ok-Some-clause-refused c = rw (having c) (tt, refl)

pub returns-in-Ok-Some-clause-err : goal.returns-in-Ok-Some-clause-err
returns-in-Ok-Some-clause-err c = same c

pub returns-in-Ok-Some-clause-rise : goal.returns-in-Ok-Some-clause-rise
returns-in-Ok-Some-clause-rise c = rw (same c) c.requires

pub returns-clause-refused : goal.returns-clause-refused
returns-clause-refused c = rw (has_node-lookup c.args.message.now.node
    c.args.locations.now.entries ∙ ap is_some c.in-Err.ensures.absent) (tt, refl)
