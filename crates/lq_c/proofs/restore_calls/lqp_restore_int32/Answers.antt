use Rattle.std.proofs.Common.{ℤ, subst, to_z-of_z}
use Rattle.lq_value.specs.declared.value.Value.TheVariants.{Int32}
use Rattle.lq_script_request.specs.Request.{given_number}
use Rattle.lq_embed.specs.Outcome.{Gives}
use Rattle.lq_embed.specs.Requests.{set_request}
use Rattle.lq_embed.specs.Restorer.{attr_outcome}
use Rattle.lq_c.specs.Held.{restored_in}
use Rattle.lq_c.proofs.restore_calls.lqp_restore_int32.Goals as goal

pub returns-clause-adds : goal.returns-clause-adds
returns-clause-adds c = subst (λ (n : ℤ). Gives (attr_outcome (restored_in c.args.handle.now)
    (set_request 0 c.args.attr.now (given_number (Int32 n)))) (restored_in c.args.handle.now)
    (restored_in c.restore_attr.new.handle) c.restore_attr.result) (to_z-of_z c.ranges.value)
    c.restore_attr.ensures.adds
