-- The closure that plays may be shared by threads.
use mathlib.Core.List.{List, [], ◌∷◌}
use mir.Syntax.{Sym}
use denote.RattleType.{RattleType}
use denote.Ref.{NamedLft}
use denote.Struct.Field.{shr_ref_field}
use denote.Struct.Tuple.{TupleAt, type_at}
use denote.Exit.{no}
use denote.Param.{param}
use denote.Param.Send.{IsSync, param_sync, arg_sync, shr_sync}
use denote.Param.SendFields.{declared_sync}
use Rattle.lq_server_slots.specs.declared.server_base.Named.{Ghosts}
use Rattle.lq_server.specs.contracts.server.Server as server
use Rattle.lq_server_tests.proofs.scenario.act.Goals as goal

-- what it takes: the runtime, the server
abbrev parts : NamedLft → NamedLft → (N R : RattleType) → Ghosts N.Denot
    → List RattleType
parts ℓ ℓ₁ N R g =
    (shr_ref_field ℓ (param 1 R) tt).row
    ∷ (shr_ref_field ℓ₁ (server.the_row (param 0 N) g) tt).row
    ∷ []

taken : (ν : Sym) (ℓ ℓ₁ : NamedLft) (N R : RattleType) (g : Ghosts N.Denot)
    → IsSync (param 1 R)
    → IsSync (server.the_row (param 0 N) g)
    → IsSync (TupleAt ν (parts ℓ ℓ₁ N R g))
taken ν ℓ ℓ₁ N R g y v =
    declared_sync (type_at ν (parts ℓ ℓ₁ N R g)) (
      shr_sync _ _ _ y,
      (shr_sync _ _ _ v, tt),
    )

pub for_each_mut-requires-sync-F : goal.for_each_mut-requires-sync-F
for_each_mut-requires-sync-F g c κs within =
    param_sync 2 _
    (arg_sync _ no _
    (taken _ _ _ g.row.N g.row.R g.N.Named c.type_bounds.sync-R c.servers_may_be_shared.ensures))
