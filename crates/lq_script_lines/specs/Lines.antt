-- The lines of a script's bytes, and the replies to them.
use Rattle.std.specs.Prelude.{◌≡◌, ◌≢◌, ℕ, List, [], ◌∷◌, ◌++◌, false, if◌then◌else◌, ◌==◌, length, nat_lt}
use Rattle.std.specs.Io.BufRead.{strip_last}

-- the lines with a byte added before the first one; without lines, the byte is the only line
abbrev pub with_front : ℕ → List (List ℕ) → List (List ℕ)
with_front b [] = (b ∷ []) ∷ []
with_front b (line ∷ lines) = (b ∷ line) ∷ lines

-- The text cut at LF. A last line without LF counts as a line; after a final LF there is none.
abbrev pub lines_of : List ℕ → List (List ℕ)
lines_of [] = []
lines_of (b ∷ bs) = if b == 10 then [] ∷ lines_of bs else with_front b (lines_of bs)

-- the ended lines with a byte added before the first one, if there is one
abbrev pub before_ended : ℕ → List (List ℕ) → List (List ℕ)
before_ended b [] = []
before_ended b (line ∷ lines) = (b ∷ line) ∷ lines

-- the bytes have no LF
abbrev pub IsUnbroken : List ℕ → Type 0
IsUnbroken [] = Unit {0}
IsUnbroken (b ∷ bs) = ((b == 10) ≡ false) × IsUnbroken bs

-- the lines that LF ended
abbrev pub ended_lines : List ℕ → List (List ℕ)
ended_lines [] = []
ended_lines (b ∷ bs) = if b == 10 then [] ∷ ended_lines bs else before_ended b (ended_lines bs)

-- the line in progress with a byte added before it, unless a line ended before it
abbrev pub before_last : ℕ → List (List ℕ) → List ℕ → List ℕ
before_last b [] bytes = b ∷ bytes
before_last b (line ∷ lines) bytes = bytes

-- the bytes after the last LF: the line in progress
abbrev pub unended_line : List ℕ → List ℕ
unended_line [] = []
unended_line (b ∷ bs) =
    if b == 10 then unended_line bs else before_last b (ended_lines bs) (unended_line bs)

-- What more bytes do to the lines of an input. An LF ends the line in progress, and the next one is
-- empty. Bytes without LF end no line, and are added to the line in progress.
pub record LinesGrow : Type 0 where
  pub ended : (given : List ℕ)
      → ended_lines (given ++ 10 ∷ []) ≡ ended_lines given ++ unended_line given ∷ []
  pub begun : (given : List ℕ) → unended_line (given ++ 10 ∷ []) ≡ []
  pub same : (given run : List ℕ) → IsUnbroken run → ended_lines (given ++ run) ≡ ended_lines given
  pub added : (given run : List ℕ) → IsUnbroken run
      → unended_line (given ++ run) ≡ unended_line given ++ run

-- The lines of an input are those that LF ended and, unless it is empty, the line in progress,
-- which has no LF.
pub record LinesEnd : Type 0 where
  pub unbroken : (given : List ℕ) → IsUnbroken (unended_line given)
  pub all : (given : List ℕ) → unended_line given ≡ [] → lines_of given ≡ ended_lines given
  pub last : (given : List ℕ) → unended_line given ≢ []
      → lines_of given ≡ ended_lines given ++ unended_line given ∷ []

-- the bytes without a single CR at the end
abbrev pub without_cr : List ℕ → List ℕ
without_cr bytes = strip_last 13 bytes

-- a line as the responder gets it
pub data Line : Type 0 where
  long : Line
  empty : Line
  whole : List ℕ → Line

-- a line that isn't too long and has lost its CR
abbrev pub given_line : List ℕ → Line
given_line [] = empty
given_line (b ∷ bs) = whole (b ∷ bs)

-- A line of more than 65,536 bytes is too long, even if the last byte is a CR.
abbrev pub line_of : List ℕ → Line
line_of bytes = if nat_lt 65536 (length bytes) then long else given_line (without_cr bytes)

-- how lines are answered: the reply in each state, the state after it, and the reply to a line that
-- is too long
pub record Rules (State : Type 0) : Type 0 where
  pub reply : State → List ℕ → List ℕ
  pub after : State → List ℕ → State
  pub long : List ℕ

-- what is written for a line
abbrev pub reply_to : {State : Type 0} → Rules State → State → Line → List ℕ
reply_to rules state long = rules.long
reply_to rules state empty = []
reply_to rules state (whole bytes) = rules.reply state bytes

-- the state after a line
abbrev pub state_after : {State : Type 0} → Rules State → State → Line → State
state_after rules state long = state
state_after rules state empty = state
state_after rules state (whole bytes) = rules.after state bytes

-- what is written for several lines, one reply after another
abbrev pub replies_to : {State : Type 0} → Rules State → State → List (List ℕ) → List ℕ
replies_to rules state [] = []
replies_to rules state (bytes ∷ lines) =
    reply_to rules state (line_of bytes)
    ++ replies_to rules (state_after rules state (line_of bytes)) lines
