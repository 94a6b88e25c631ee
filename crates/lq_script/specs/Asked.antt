-- What the lines of a script ask, and which replies the world has at their places.
use Rattle.std.specs.Prelude.{◌≡◌, ℕ, List, [], ◌∷◌, ◌++◌, map, Bool, true, false, Result, Ok, Err}
use Rattle.lq_value.specs.declared.refusal.Refusal.{Refusal}
use Rattle.lq_value.specs.declared.refusal.Refusal.TheVariants.{LongLine}
use Rattle.lq_desk_world.specs.declared.event.Event.TheVariants.{Change, Take}
use Rattle.lq_script_lines.specs.Lines.{Line, long, empty, whole, ended_lines, line_of}
use Rattle.lq_script_request.specs.declared.request.Request.{Request}
use Rattle.lq_script_request.specs.declared.request.Request.TheVariants as request
use Rattle.lq_script_request.specs.declared.request.Look.TheVariants as look
use Rattle.lq_script_request.specs.Request.{request_in}
use Rattle.lq_script_desk.specs.Answered.{line_outcome}
use Rattle.lq_script_desk.specs.Reply.{reply_text}
use Rattle.lq_script_desk.specs.Response.{Response}
use Rattle.lq_script_desk.specs.Session.{Session}

-- ---- what lines ask

-- a request, or why the line has none
abbrev pub Asked : Type 0
Asked = Result Request Refusal

-- what a line that was handed on asks; an empty one stands for one that was too long
abbrev pub asked_by : List ℕ → Asked
asked_by [] = Err LongLine
asked_by (b ∷ bytes) = request_in (b ∷ bytes)

-- what the lines ask that were handed on, each with LF
abbrev pub asked_by_all : List ℕ → List Asked
asked_by_all text = map asked_by (ended_lines text)

-- what a line of an input asks; an empty one asks nothing, and has no reply
abbrev pub asked_of : Line → List Asked
asked_of long = Err LongLine ∷ []
asked_of empty = []
asked_of (whole bytes) = request_in bytes ∷ []

-- what the lines of an input ask, in order
abbrev pub asked_in : List (List ℕ) → List Asked
asked_in [] = []
asked_in (bytes ∷ lines) = asked_of (line_of bytes) ++ asked_in lines

-- reads of these slots
abbrev pub asked_reads : List ℕ → List Asked
asked_reads slots = map (λ slot. Ok (request.Event (Take slot))) slots

-- ---- the replies to them

-- the session after lines that ask this
abbrev pub after_asked : Session → List Asked → Session
after_asked s [] = s
after_asked s (a ∷ asked) = after_asked (line_outcome s a).1 asked

-- Whether the reply depends on the accepted changes alone: of a change and of a look at the volume,
-- and where the line has no request.
abbrev pub goes_by_changes : Asked → Bool
goes_by_changes (Err e) = true
goes_by_changes (Ok (request.Event (Change c))) = true
goes_by_changes (Ok (request.Event e)) = false
goes_by_changes (Ok (request.Look (look.Rebuilt slot))) = false
goes_by_changes (Ok (request.Look l)) = true

-- each line has one reply, and one that depends on the accepted changes alone is the session's
abbrev pub AreReplies : Session → List Asked → List Response → Type 0
AreReplies s [] [] = Unit {0}
AreReplies s [] (reply ∷ replies) = ⊥
AreReplies s (a ∷ asked) [] = ⊥
AreReplies s (a ∷ asked) (reply ∷ replies) =
    (goes_by_changes a ≡ true → reply_text reply ≡ reply_text (line_outcome s a).0)
    × AreReplies (line_outcome s a).1 asked replies
