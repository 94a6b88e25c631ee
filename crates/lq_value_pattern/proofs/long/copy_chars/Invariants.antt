use Rattle.std.proofs.Common.{◌≡◌, ◌≤◌, ◌++◌, length, take, chars}
use Rattle.lq_value_pattern.proofs.long.copy_chars.Given as goal

-- the characters that are left come behind those in the buffer
abbrev pub invariant-loop-c : goal.invariant-loop-c
invariant-loop-c l = record {
  room : l.count ≤ length l.buffer;
  copied : take l.count l.buffer ++ chars l.left.text.now ≡ chars l.fn.text;
}

abbrev pub decreases-loop-c : goal.decreases-loop-c
decreases-loop-c l = length (chars l.left.text.now)
