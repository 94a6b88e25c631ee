use Rattle.std.proofs.Common.{◌≤◌, ◌-◌, length}
use Rattle.json.specs.Written.{PlainBetween}
use Rattle.lq_script_request.proofs.member.text_end.Given as goal

abbrev pub invariant-text : goal.invariant-text
invariant-text l = record {
  plain : PlainBetween l.bytes l.from l.end;
  after : l.from ≤ l.end;
  within : l.end ≤ length l.bytes;
}

abbrev pub decreases-text : goal.decreases-text
decreases-text l = length l.bytes - l.end
