use Rattle.std.proofs.Common.{◌≡◌, ◌<◌, ◌≤◌, ◌-◌, ◌^◌, ◌++◌, decimal, drop, length}
use Rattle.lq_script_request.proofs.member.whole_at.Given as goal

-- the digits so far write the number
abbrev pub invariant-digits : goal.invariant-digits
invariant-digits l = record {
  written : drop l.from l.bytes ≡ decimal l.number ++ drop l.end l.bytes;
  some : 0 < l.number;
  small : l.number < 10 ^ (l.end - l.from);
  after : l.from < l.end;
  few : l.end - l.from ≤ 18;
  within : l.end ≤ length l.bytes;
}

abbrev pub decreases-digits : goal.decreases-digits
decreases-digits l = length l.bytes - l.end
