use Rattle.std.proofs.Common.{◌≡◌, ◌+◌, ◌-◌, ◌≤◌, drop, length}
use Rattle.std.specs.List.{prefix_len}
use Rattle.lq_script_desk.specs.Escaping.{needs_no_escape}
use Rattle.lq_script_desk.proofs.quoted_text.plain_len.Given as goal

-- each byte so far is plain
abbrev pub invariant-loop-len : goal.invariant-loop-len
invariant-loop-len l = (l.len ≤ length l.text)
    × (prefix_len needs_no_escape l.text ≡ l.len + prefix_len needs_no_escape (drop l.len l.text))

abbrev pub decreases-loop-len : goal.decreases-loop-len
decreases-loop-len l = length l.text - l.len
