use Rattle.std.proofs.Common.{ℤ, subst, to_z-of_z}
use Rattle.lq_value.specs.declared.value.Value.TheVariants.{Int32}
use Rattle.lq_script_request.specs.Request.{given_number}
use Rattle.lq_embed.specs.Calls.{Changes}
use Rattle.lq_embed.specs.Requests.{set_request}
use Rattle.lq_c.specs.Held.{held_state}
use Rattle.lq_c.proofs.change_calls.lqp_set_int32.Goals as goal

pub returns : goal.returns
returns c = subst (λ (n : ℤ). Changes (held_state c.args.handle.now)
    (held_state c.set_attr.new.handle)
    (set_request c.args.node c.args.attr.now (given_number (Int32 n)))
    c.set_attr.result c.args.out.now c.set_attr.new.out) (to_z-of_z c.ranges.value)
    c.set_attr.ensures
