-- What the session behind a handle holds, what it has restored, and what a status says of a line.
use Rattle.std.specs.Prelude.{ℕ, ◌==◌, Result, Ok, Err, if◌then◌else◌}
use Rattle.lq_value.specs.declared.refusal.Refusal.{Refusal}
use Rattle.lq_value.specs.declared.refusal.Refusal.TheVariants.{NoMemory}
use Rattle.lq_embed.specs.Restorer.{Restored, restores}
use Rattle.lq_embed.specs.SessionState.{SessionState, holds}
use Rattle.lq_c.specs.declared.handle.Lq.{Lq}

abbrev pub held_state : Lq → SessionState
held_state handle = holds handle.served.embedded

-- the numbers and entries of a volume that is restored there, so far
abbrev pub restored_in : Lq → Restored
restored_in handle = restores handle.served.restorer

-- what the status of a line says: it was answered, or memory ran out
abbrev pub line_result : ℕ → Result (Unit {0}) Refusal
line_result status = if status == 0 then Ok tt else Err NoMemory
