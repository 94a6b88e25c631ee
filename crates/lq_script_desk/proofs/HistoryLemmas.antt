-- The events of a script, the answers to them, and its replies.
use Rattle.std.proofs.Common.{◌≡◌, ℕ, zero, suc, ◌+◌, List, [], ◌∷◌, ◌++◌, length, refl, ap, ap₂, ◌∙◌, sym, arith, append_assoc, inl, Option, Some, None, Result, Ok, Err}
use Rattle.std.specs.Result.{result_ok}
use Rattle.std.proofs.lemmas.List.Sums.{fold-append}
use Rattle.lq_value.specs.declared.refusal.Refusal.{Refusal}
use Rattle.lq_desk_world.specs.World.{World}
use Rattle.lq_desk_world.specs.declared.event.Event.{Event}
use Rattle.lq_desk_world.specs.declared.event.Event.TheVariants.{Change, Put, Take, Notice, Close}
use Rattle.lq_desk_world.specs.Events.{Answer, answer_to, next, outcome}
use Rattle.lq_desk_world.specs.Runs.{Run}
use Rattle.lq_desk_world.specs.Turns.{Turn, after_events, all_puts, at_each, carried_out, events_in, notices, one_notice, places_at, ports_of, put_events, turn_of, turn_outcome}
use Rattle.lq_script_lines.specs.Lines.{Line, Rules, whole, line_of, reply_to, replies_to, state_after}
use Rattle.lq_script_lines.specs.Progress.{state_after_all}
use Rattle.lq_script_request.specs.declared.request.Request.{Request}
use Rattle.lq_script_request.specs.declared.request.Request.TheVariants as request
use Rattle.lq_script_request.specs.Request.{request_in}
use Rattle.lq_script_desk.specs.Answered.{line_outcome, request_outcome, slot_named}
use Rattle.lq_script_desk.specs.Folds.{folds_after}
use Rattle.lq_script_desk.specs.Reply.{reply_text}
use Rattle.lq_script_desk.specs.Response.{Answers}
use Rattle.lq_script_desk.specs.Script.{script_session, script_world, world_rules}
use Rattle.lq_script_desk.specs.Session.{Session, session_with}
use Rattle.lq_script_desk.specs.History.{IsReplied, answer_after, answers_to, event_of, events_asked, events_before, events_of, request_of, replies_of, session_after, turns_of, world_after}

-- ---- events one after another

-- the answers to events and then others are those to the first and then those to the others
pub answers_to-append : (w : World) (xs ys : List Event)
    → answers_to w (xs ++ ys) ≡ answers_to w xs ++ answers_to (after_events outcome w xs) ys
answers_to-append w [] ys = refl
answers_to-append w (x ∷ xs) ys =
    ap (λ rest. answer_to w x ∷ rest) (answers_to-append (next w x) xs ys)

-- each event has one answer
pub answers_to-count : (w : World) (events : List Event)
    → length events ≡ length (answers_to w events)
answers_to-count w [] = refl
answers_to-count w (e ∷ events) = omega (arith, answers_to-count (next w e) events)

-- events and the answers to them are a run
pub run-answers : (w : World) (events : List Event)
    → Run w events (answers_to w events) (after_events outcome w events)
run-answers w [] = refl
run-answers w (e ∷ events) = (next w e, inl (refl, refl), run-answers (next w e) events)

-- ---- turns

-- a turn leads where its events lead
pub turn-end : (w : World) (t : Turn)
    → after_events outcome w (events_in t) ≡ (carried_out outcome w t).1
turn-end w t = fold-append next w t.before (t.event ∷ t.after)

-- the turns of events and then of others
pub turns_of-append : (w : World) (xs ys : List Event)
    → turns_of w (xs ++ ys) ≡ turns_of w xs ++ turns_of (after_events outcome w (turns_of w xs)) ys
turns_of-append w [] ys = refl
turns_of-append w (x ∷ xs) ys =
    let t = turn_of (ports_of w) x in
    let v = (turn_outcome w x).1 in
    let here : after_events outcome w (events_in t ++ turns_of v xs)
    ≡ after_events outcome v (turns_of v xs) =
    fold-append next w (events_in t) (turns_of v xs)
    ∙ ap (λ u. after_events outcome u (turns_of v xs)) (turn-end w t) in
    rw (turns_of-append v xs ys, here) (sym (append_assoc (events_in t) (turns_of v xs) _))

-- ---- sessions

-- a session's answer to an event, and the session then
abbrev pub session_step : Session → Event → Answer × Session
session_step s e = (
  answer_to s.core e,
  session_with (next s.core e) (folds_after (slot_named e) (answer_to s.core e) s.folds),
)

abbrev session_next : Session → Event → Session
session_next s e = (session_step s e).1

-- the world of a session after events
pub core-after : (s : Session) (events : List Event)
    → (after_events session_step s events).core ≡ after_events outcome s.core events
core-after s [] = refl
core-after s (e ∷ events) = core-after (session_step s e).1 events

-- events that leave the folds
abbrev AreQuiet : List Event → Type 0
AreQuiet events = (s : Session) → (after_events session_step s events).folds ≡ s.folds

-- a notice does
notice-quiet : (k : ℕ) → AreQuiet (Notice k ∷ [])
notice-quiet k s = grind arith

-- so does a put
put-quiet : (k : ℕ) → AreQuiet (Put k ∷ [])
put-quiet k s = grind arith

-- and so do events that do and others that do
quiet-append : (xs ys : List Event) → AreQuiet xs → AreQuiet ys → AreQuiet (xs ++ ys)
quiet-append xs ys h g s =
    ap (λ (t : Session). t.folds) (fold-append session_next s xs ys)
    ∙ (g (after_events session_step s xs) ∙ h s)

puts-quiet : (k n : ℕ) → AreQuiet (put_events k n)
puts-quiet k zero = λ s. refl
puts-quiet k (suc n) = quiet-append (Put k ∷ []) (put_events k n) (put-quiet k) (puts-quiet k n)

-- what is done at each taken slot leaves the folds if it does at one
each-quiet : (events : ℕ → ℕ → List Event) → ((k port : ℕ) → AreQuiet (events k port)) → (n : ℕ)
    (ports : List (Option ℕ)) → AreQuiet (at_each events n ports)
each-quiet events quiet n [] = λ s. refl
each-quiet events quiet n (None ∷ ports) = each-quiet events quiet (n + 1) ports
each-quiet events quiet n (Some port ∷ ports) =
    quiet-append (events n port) (at_each events (n + 1) ports) (quiet n port)
    (each-quiet events quiet (n + 1) ports)

-- among such events the folds are those by the answer to the one event
among-quiet : (s : Session) (before after : List Event) (e : Event)
    → AreQuiet before → AreQuiet after
    → folds_after (slot_named e) (answer_to (after_events outcome s.core before) e) s.folds
    ≡ (after_events session_step s (before ++ e ∷ after)).folds
among-quiet s before after e first last =
    let t = after_events session_step s before in
    sym (ap (λ (u : Session). u.folds) (fold-append session_next s before (e ∷ after))
    ∙ (last (session_step t e).1
    ∙ ap₂ (λ w folds. folds_after (slot_named e) (answer_to w e) folds) (core-after s before)
    (first s)))

-- what a turn adds to its event leaves the folds
turn-folds : (s : Session) (e : Event)
    → folds_after (slot_named e) (turn_outcome s.core e).0 s.folds
    ≡ (after_events session_step s (events_in (turn_of (ports_of s.core) e))).folds
turn-folds s (Change c) =
    let ports = ports_of s.core in
    among-quiet s (notices ports) (all_puts ports) (Change c)
    (each-quiet one_notice (λ k port. notice-quiet k) 1 ports)
    (each-quiet put_events puts-quiet 1 ports)
turn-folds s (Take k) =
    let n = places_at (ports_of s.core) k in
    among-quiet s (Notice k ∷ put_events k n) [] (Take k)
    (quiet-append (Notice k ∷ []) (put_events k n) (notice-quiet k) (puts-quiet k n)) (λ t. refl)
turn-folds s (Close k) =
    let n = places_at (ports_of s.core) k in
    among-quiet s (Notice k ∷ []) (put_events k n) (Close k) (notice-quiet k) (puts-quiet k n)
turn-folds s e = refl

-- the session after an event's turn is the one after the turn's events
turn-session : (s : Session) (e : Event) → (request_outcome s (request.Event e)).1
    ≡ after_events session_step s (events_in (turn_of (ports_of s.core) e))
turn-session s e =
    let events = events_in (turn_of (ports_of s.core) e) in
    ap₂ session_with
    (sym (core-after s events ∙ turn-end s.core (turn_of (ports_of s.core) e))) (turn-folds s e)

-- lines that lead where the events of their turns lead
abbrev ArePlayed : List (List ℕ) → Type 0
ArePlayed lines = (s : Session) → state_after_all world_rules s lines
    ≡ after_events session_step s (turns_of s.core (events_asked lines))

-- a request before such lines, read or not
read-played : (lines : List (List ℕ)) → ArePlayed lines → (s : Session)
    (r : Result Request Refusal) → state_after_all world_rules (line_outcome s r).1 lines
    ≡ after_events session_step s
    (turns_of s.core (event_of (result_ok r) ++ events_asked lines))
read-played lines played s (Ok (request.Event e)) =
    let rest = turns_of (turn_outcome s.core e).1 (events_asked lines) in
    played (request_outcome s (request.Event e)).1
    ∙ (ap (λ (t : Session). after_events session_step t rest) (turn-session s e)
    ∙ sym (fold-append session_next s (events_in (turn_of (ports_of s.core) e)) rest))
read-played lines played s (Ok q) = played s
read-played lines played s (Err e) = played s

-- a line before such lines
line-played : (lines : List (List ℕ)) → ArePlayed lines → (s : Session) (l : Line)
    → state_after_all world_rules (state_after world_rules s l) lines
    ≡ after_events session_step s
    (turns_of s.core (event_of (request_of l) ++ events_asked lines))
line-played lines played s (whole bytes) = read-played lines played s (request_in bytes)
line-played lines played s l = played s

-- all lines are played
pub lines-played : (lines : List (List ℕ)) → ArePlayed lines
lines-played [] = λ s. refl
lines-played (bytes ∷ lines) = λ s. line-played lines (lines-played lines) s (line_of bytes)

-- the core after a script's lines is the world after their events
pub session-world : (lines : List (List ℕ)) → (session_after lines).core ≡ world_after lines
session-world lines =
    ap (λ (s : Session). s.core) (lines-played lines script_session)
    ∙ core-after script_session (events_of lines)

-- ---- replies

-- the events that lines ask for, and then others
events_asked-append : (xs ys : List (List ℕ))
    → events_asked (xs ++ ys) ≡ events_asked xs ++ events_asked ys
events_asked-append [] ys = refl
events_asked-append (x ∷ xs) ys = rw (events_asked-append xs ys, append_assoc)

-- the replies to lines, to one more, and to others
replies_to-split : {State : Type 0} (rules : Rules State) (s : State) (before : List (List ℕ))
    (bytes : List ℕ) (after : List (List ℕ)) →
    replies_to rules s (before ++ bytes ∷ after)
    ≡ (replies_to rules s before
    ++ reply_to rules (state_after_all rules s before) (line_of bytes))
    ++ replies_to rules (state_after_all rules s (before ++ bytes ∷ [])) after
replies_to-split rules s [] bytes after = refl
replies_to-split rules s (x ∷ before) bytes after =
    rw (replies_to-split rules (state_after rules s (line_of x)) before bytes after)
    (simp append_assoc)

-- the reply to a line begins with the replies before it and goes on with its own
pub reply-place : (lines before after : List (List ℕ)) (bytes : List ℕ)
    → lines ≡ before ++ bytes ∷ after → (rest : List ℕ) × (replies_of lines
    ≡ (replies_of before ++ reply_to world_rules (session_after before) (line_of bytes)) ++ rest)
reply-place lines before after bytes is =
    (_, ap replies_of is ∙ replies_to-split world_rules script_session before bytes after)

-- the response to a request that was read
read-response : (s : Session) (r : Result Request Refusal) (q : Request)
    → result_ok r ≡ Some q → (line_outcome s r).0 ≡ (request_outcome s q).0
read-response s r q is = grind arith

-- the reply to a line that makes a request
pub line-reply : (s : Session) (l : Line) (q : Request) → request_of l ≡ Some q
    → reply_to world_rules s l ≡ reply_text (request_outcome s q).0
line-reply s (whole bytes) q is = ap reply_text (read-response s (request_in bytes) q is)
line-reply s l q is = absurd (let no : ⊥ = cc in no)

-- the answer to the event of the next line
answer-turn : (before : List (List ℕ)) (e : Event)
    → (turn_outcome (session_after before).core e).0 ≡ answer_after before e
answer-turn before e =
    let w = world_after before in
    let t = turn_of (ports_of w) e in
    rw (
      session-world before,
      fold-append next script_world (events_of before) t.before,
    )

-- the events of a script with a line that asks for an event
pub events-place : (lines before after : List (List ℕ)) (bytes : List ℕ) (e : Event)
    → lines ≡ before ++ bytes ∷ after → request_of (line_of bytes) ≡ Some (request.Event e)
    → (later : List Event) × (events_of lines ≡ events_before before e ++ e ∷ later)
events-place lines before after bytes e is asks =
    let w = world_after before in
    let t = turn_of (ports_of w) e in
    let rest = turns_of (turn_outcome w e).1 (events_asked after) in
    let asked : events_asked lines ≡ events_asked before ++ e ∷ events_asked after =
    ap events_asked is ∙ (events_asked-append before (bytes ∷ after)
    ∙ ap (λ q. events_asked before ++ (event_of q ++ events_asked after)) asks) in (
      t.after ++ rest,
      ap (turns_of script_world) asked
          ∙ turns_of-append script_world (events_asked before) (e ∷ events_asked after)
          ∙ simp append_assoc,
    )

-- the reply to a line that asks for an event is the text of the event's answer
pub replied : (lines before after : List (List ℕ)) (bytes : List ℕ) (e : Event)
    → lines ≡ before ++ bytes ∷ after → request_of (line_of bytes) ≡ Some (request.Event e)
    → IsReplied lines before e
replied lines before after bytes e is asks =
    let first = events_before before e in
    let place = events-place lines before after bytes e is asks in
    let text = reply-place lines before after bytes is in
    let own : reply_to world_rules (session_after before) (line_of bytes)
    ≡ reply_text (Answers (slot_named e) (answer_after before e)) =
    line-reply (session_after before) (line_of bytes) (request.Event e) asks
    ∙ ap (λ a. reply_text (Answers (slot_named e) a)) (answer-turn before e) in record {
      later = place.0;
      events = place.1;
      laters = answers_to (next (after_events outcome script_world first) e) place.0;
      answers = ap (answers_to script_world) place.1
          ∙ answers_to-append script_world first (e ∷ place.0);
      place = answers_to-count script_world first;
      reply = (text.0, sym (text.1 ∙ ap (λ own. (replies_of before ++ own) ++ text.0) own));
    }
