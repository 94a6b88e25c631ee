use Rattle.std.proofs.Common.{◌-◌, length}
use Rattle.lq_script_request.proofs.MemberLemmas.{AreRead}
use Rattle.lq_script_request.proofs.fields.Fields.read_plain.Given as goal

abbrev pub invariant-members : goal.invariant-members
invariant-members l = AreRead l.text l.self l.end

abbrev pub decreases-members : goal.decreases-members
decreases-members l = length l.text - l.end
