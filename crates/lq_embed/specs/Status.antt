-- The status of an answer.
use Rattle.std.specs.Prelude.{ℕ, Result, Ok, Err}
use Rattle.lq_value.specs.declared.refusal.Refusal.{Refusal}
use Rattle.lq_value.specs.Refusal.{code_of}
use Rattle.lq_desk_world.specs.Events.{Answer, Empty, Ended, Refused}
use Rattle.lq_script_desk.specs.Response.{Response, Refuses}

-- the number of a refusal, or 0
abbrev pub status_of : Answer → ℕ
status_of (Refused refusal) = code_of refusal
status_of answer = 0

-- the status of a read: 41 where there is nothing to read, 42 where the mark was read before
abbrev pub read_status : Answer → ℕ
read_status Empty = 41
read_status Ended = 42
read_status answer = status_of answer

-- the same of the response to a look
abbrev pub response_status : Response → ℕ
response_status (Refuses refusal) = code_of refusal
response_status response = 0

-- the status of a call that gives nothing else
abbrev pub outcome_status : {T : Type 0} → Result T Refusal → ℕ
outcome_status (Ok x) = 0
outcome_status (Err refusal) = code_of refusal
