use Rattle.std.proofs.Common.{◌≡◌, ◌∙◌, sym, ap, None}
use Rattle.std.specs.Option.{option_copied}
use Rattle.lq_volume.specs.State.{IsVolume, record_at}
use Rattle.lq_volume.proofs.Keeps.{other-there}
use Rattle.lq_volume.proofs.checks.other_in.Goals as goal

pub returns-in-None-get-clause-node : goal.returns-in-None-get-clause-node
returns-in-None-get-clause-node c =
    let s = c.args.volume.now in
    let volume : IsVolume s = rw (← c.volume.view_is) c.volume.invariant in
    let none : record_at s c.in-Some.other ≡ None = rw (← c.volume.view_is) (sym c.get.ensures
    ∙ ap option_copied c.in-None-get.is) in
    absurd (other-there c.records_are_kept.ensures s c.args.moved c.args.dir c.args.name.now
    c.in-Some.other volume (sym c.other_at.ensures ∙ c.in-Some.is) none)
