use Rattle.std.proofs.Common.{◌≡◌, subst, sym, Some}
use Rattle.lq_volume.specs.State.{State, kind_at}
use Rattle.lq_volume.proofs.Paths.{can-climb}
use Rattle.lq_volume.proofs.volume.Volume.path.Goals as goal

pub path-requires : goal.path-requires
path-requires c = can-climb _ c.args.node _ c.self.invariant
    (subst (λ (s : State). Some c.in-Some.field-0 ≡ kind_at s c.args.node)
    (sym c.self.view_is) c.in-Some.ensures)
