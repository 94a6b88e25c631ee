-- Which message may come after the latest one.
use Rattle.std.specs.Prelude.{ℕ, ◌+◌, Bool, ◌&&◌, ◌==◌, nat_lt, if◌then◌else◌}
use Rattle.lq_update.specs.declared.message.Message.{Message}

-- the message's number is one more; its change is later if the latest message was the last of its
-- change, else the same
abbrev pub may_come_next : ℕ → ℕ → Bool → Message → Bool
may_come_next seq change last m =
    (m.seq == seq + 1) && (if last then nat_lt change m.change else m.change == change)
