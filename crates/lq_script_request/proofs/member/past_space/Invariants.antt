use Rattle.std.proofs.Common.{◌-◌, length}
use Rattle.lq_script_request.specs.Members.{IsPastSpace}
use Rattle.lq_script_request.proofs.member.past_space.Given as goal

abbrev pub invariant-spaces : goal.invariant-spaces
invariant-spaces l = IsPastSpace l.bytes l.from l.at

abbrev pub decreases-spaces : goal.decreases-spaces
decreases-spaces l = length l.bytes - l.at
