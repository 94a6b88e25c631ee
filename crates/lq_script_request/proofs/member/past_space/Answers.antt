use Rattle.std.proofs.Common.{arith, rules}
use Rattle.lq_script_request.proofs.LexLemmas.{past-more, past-none}
use Rattle.lq_script_request.proofs.member.past_space.Goals as goal

pub spaces-init : goal.spaces-init
spaces-init c = past-none c.args.bytes.now c.args.from c.requires

pub spaces-preserved : goal.spaces-preserved
spaces-preserved c =
    past-more c.args.bytes.now c.args.from c.spaces.at (omega arith) (search rules)
    c.spaces.invariant
