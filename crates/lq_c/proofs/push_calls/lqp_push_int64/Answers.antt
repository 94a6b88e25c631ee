use Rattle.std.proofs.Common.{ℤ, subst, to_z-of_z}
use Rattle.lq_embed.specs.Pushed.{push_outcome}
use Rattle.lq_embed.specs.declared.pushes.Push.TheVariants.{Int64}
use Rattle.lq_c.specs.Held.{held_state}
use Rattle.lq_c.specs.Numbers.{PushesIn, has_room}
use Rattle.lq_c.proofs.push_calls.lqp_push_int64.Goals as goal

pub returns : goal.returns
returns c = subst (λ (n : ℤ). PushesIn (has_room c.args.pushes.now) (held_state c.args.handle.now)
    (held_state c.push.new.handle)
    (push_outcome (Int64 n) (held_state c.args.handle.now).pushed)
    c.push.result c.args.pushes.now c.push.new.pushes) (to_z-of_z c.ranges.value) c.push.ensures
