-- What a byte, an LF, a write and the end of an input do to a run.
use Rattle.std.proofs.Common.{◌≡◌, ◌⊎◌, inl, inr, ℕ, ◌+◌, ◌≤◌, ◌<◌, ◌++◌, List, [], ◌∷◌, length, take, drop, get_or, true, false, Bool, Option, refl, sym, ap, ◌∙◌, arith, append_assoc, append-nil, length-append, length-drop, take-append-drop}
use Rattle.std.proofs.Math.Seq.{take-add}
use Rattle.std.proofs.lemmas.List.{take_all, take_more}
use Rattle.std.proofs.KnownBytes.{Appends-nil, Appends-trans}
use Rattle.std.specs.Io.KnownBytes.{Appends}
use Rattle.lq_script_lines.specs.declared.intake.Intake.{Intake}
use Rattle.lq_script_lines.specs.Lines.{IsUnbroken, Rules, ended_lines, line_of, lines_of, replies_to, reply_to, state_after, unended_line}
use Rattle.lq_script_lines.specs.Output.{IsWithinInput, output_of}
use Rattle.lq_script_lines.specs.Progress.{Began, Fronts, Halts, HasCome, IsKeptLine, RunStands, state_after_all}
use Rattle.lq_script_lines.proofs.LineLemmas.{ended_line, ended_run, line_begins, lines_ahead, lines_all, lines_few, lines_whole, output_last, replies_append, replies_one, state_one, unended_ended, unended_run, unended_unbroken}

-- an input that ends in an unbroken run is within the limits, if it was below them
within_run : (given more : List ℕ) → IsUnbroken more → length (ended_lines given) < 10000000
    → length given + length more ≤ 1073741824 → IsWithinInput (given ++ more)
within_run given more u below bytes = (
  let lines : length (lines_of (given ++ more))
      ≡ length (ended_lines given) + length (lines_of (unended_line (given ++ more))) =
      ap length (lines_whole (given ++ more))
      ∙ rw (ended_run given more u)
      (length-append (ended_lines given) (lines_of (unended_line (given ++ more)))) in
      omega (
        arith,
        lines,
        lines_few (unended_line (given ++ more)) (unended_unbroken (given ++ more)),
        below,
      ),
  omega (arith, length-append given more, bytes),
)

module _ {given : List ℕ} {intake : Intake} (h : HasCome given intake) where
  -- bytes among which is no LF are kept
  pub come_run : {intake' : Intake} (more : List ℕ) → IsUnbroken more
      → IsKeptLine (unended_line given ++ more) intake'.long intake'.line.items
      → intake'.lines ≡ intake.lines → intake'.bytes ≡ intake.bytes + length more
      → intake.lines < 10000000 → intake.bytes + length more ≤ 1073741824
      → HasCome (given ++ more) intake'
  come_run more u kept lines bytes below_lines below_bytes = record {
    lines = lines ∙ h.lines ∙ ap length (sym (ended_run given more u));
    bytes = omega (arith, bytes, h.bytes, length-append given more);
    kept = rw (unended_run given more u) kept;
    within = within_run given more u (omega (arith, h.lines, below_lines))
        (omega (arith, h.bytes, below_bytes));
  }

  -- more bytes and an LF came
  pub come_line : {intake' : Intake} (run : List ℕ) → IsUnbroken run
      → intake'.long ≡ false → intake'.line.items ≡ [] → intake'.lines ≡ intake.lines + 1
      → intake'.bytes ≡ intake.bytes + length run + 1 → intake.lines < 10000000
      → intake.bytes + length run < 1073741824
      → HasCome (given ++ (run ++ 10 ∷ [])) intake'
  come_line run u long line lines bytes below_lines below_bytes =
      let line_is = unended_line given ++ run in
      let count : length (ended_lines (given ++ (run ++ 10 ∷ [])))
      ≡ length (ended_lines given) + length (line_is ∷ []) =
      ap length (ended_line given run u) ∙ length-append (ended_lines given) (line_is ∷ []) in
      let size : length (given ++ (run ++ 10 ∷ [])) ≡ length given + length run + 1 =
      omega (
        arith,
        length-append given (run ++ 10 ∷ []),
        length-append run (10 ∷ []),
      ) in
      record {
        lines = omega (arith, lines, h.lines, count);
        bytes = omega (arith, bytes, h.bytes, size);
        kept = rw (long, line, unended_ended given run) (refl, omega arith);
        within = (
          rw (lines_all (given ++ (run ++ 10 ∷ [])) (unended_ended given run))
              (omega (arith, count, h.lines, below_lines)),
          omega (arith, size, h.bytes, below_bytes),
        );
      }

  -- at a limit one byte more is too much
  pub come_passes : (b : ℕ) → (10000000 ≤ intake.lines) ⊎ (1073741824 ≤ intake.bytes)
      → ¬ IsWithinInput (given ++ b ∷ [])
  come_passes b (inl full) within =
      let begins = line_begins (unended_line given ++ b ∷ []) (λ none. omega (
        arith,
        ap (length {A = ℕ}) none,
        length-append (unended_line given) (b ∷ []),
      )) in
      let lines : length (lines_of (given ++ b ∷ []))
      ≡ length (ended_lines given) + length (begins.0 ∷ begins.1.0) =
      ap length (lines_ahead given (b ∷ []))
      ∙ length-append (ended_lines given) (lines_of (unended_line given ++ b ∷ []))
      ∙ ap (λ l. length (ended_lines given) + length l) begins.1.1 in
      omega (arith, within.0, lines, h.lines, full)
  come_passes b (inr full) within =
      omega (arith, within.1, h.bytes, full, length-append given (b ∷ []))

-- bytes of a line in progress of which something is kept
some_kept : (bytes : List ℕ) (long : Bool) (line : List ℕ) → IsKeptLine bytes long line
    → (long ≡ false → line ≡ [] → ⊥) → bytes ≡ [] → ⊥
some_kept bytes true line kept some none = omega (arith, kept, ap (length {A = ℕ}) none)
some_kept bytes false line kept some none = some refl (sym kept.0 ∙ none)

-- at the beginning nothing has come
pub stands_none : {State : Type 0} {rules : Rules State} {state : State} {w : Option (List ℕ)}
    {intake : Intake} {out : List ℕ} → HasCome [] intake → out ≡ []
    → RunStands rules (record { state = state; written = w }) [] w state intake out
stands_none {w} come none = record {
  come = come;
  text = [];
  answered = refl;
  appended = Appends-nil w;
  due = none;
}

-- of a run that stands
module _ {State : Type 0} {rules : Rules State} {began : Began State} {given : List ℕ}
    {w : Option (List ℕ)} {state : State} {intake : Intake} {out : List ℕ}
    (s : RunStands rules began given w state intake out) where
  -- replies that wait are written
  pub stands_handed : {w' : Option (List ℕ)} {out' : List ℕ} → Appends w w' out → out' ≡ []
      → RunStands rules began given w' state intake out'
  stands_handed {w'} a none = record {
    come = s.come;
    text = s.text ++ out;
    answered = s.answered;
    appended = Appends-trans began.written w w' s.text out s.appended a;
    due = rw (none, append-nil) s.due;
  }

  -- bytes among which is no LF are kept
  pub stands_run : {intake' : Intake} (more : List ℕ) → IsUnbroken more
      → HasCome (given ++ more) intake'
      → RunStands rules began (given ++ more) w state intake' out
  stands_run more u come = record {
    come = come;
    text = s.text;
    answered = rw (ended_run given more u) s.answered;
    appended = s.appended;
    due = rw (ended_run given more u) s.due;
  }

  -- more bytes and an LF came, and the line is answered
  pub stands_line : {state' : State} {intake' : Intake} {out' : List ℕ} (run : List ℕ)
      → IsUnbroken run
      → out' ≡ out ++ reply_to rules state (line_of (unended_line given ++ run))
      → state' ≡ state_after rules state (line_of (unended_line given ++ run))
      → HasCome (given ++ (run ++ 10 ∷ [])) intake'
      → RunStands rules began (given ++ (run ++ 10 ∷ [])) w state' intake' out'
  stands_line run u reply after come =
      let lines = ended_lines given in
      let ended = unended_line given ++ run in record {
        come = come;
        text = s.text;
        answered = rw (ended_line given run u, after, s.answered)
            (sym (state_one rules began.state lines ended));
        appended = s.appended;
        due = rw (ended_line given run u, reply, ← append_assoc, s.due, s.answered)
            (sym (replies_one rules began.state lines ended));
      }

  -- what is written is a front of the output, whatever comes next
  pub stands_fronts : (rest : List ℕ) {whole : List ℕ} → given ++ rest ≡ whole
      → Fronts rules began whole w out
  stands_fronts rest e = record {
    text = s.text;
    appended = s.appended;
    front = (
      replies_to rules (state_after_all rules began.state (ended_lines given))
          (lines_of (unended_line given ++ rest)),
      rw (
        ← e,
        lines_ahead given rest,
        replies_append rules began.state (ended_lines given) _,
        s.due,
      ),
    );
  }

  -- and of what has come
  pub stands_stops : Fronts rules began given w out
  stands_stops = stands_fronts [] (append-nil given)

  -- the lines before the one in progress are answered
  pub stands_halts : (rest : List ℕ) {whole : List ℕ} → given ++ rest ≡ whole
      → (unended_line given ++ rest ≡ [] → ⊥) → Halts rules began whole w out
  stands_halts rest e some = let begins = line_begins (unended_line given ++ rest) some in record {
    lines = ended_lines given;
    next = begins.0;
    rest = begins.1.0;
    front = rw (← e, lines_ahead given rest, begins.1.1);
    text = s.text;
    appended = s.appended;
    due = s.due;
  }

  -- and so they are at the end of an input, where a line is in progress
  pub halted_now : (intake.long ≡ false → intake.line.items ≡ [] → ⊥)
      → Halts rules began given w out
  halted_now some = stands_halts [] (append-nil given) (λ none.
      some_kept (unended_line given) intake.long intake.line.items s.come.kept some
      (sym (append-nil (unended_line given)) ∙ none))

  module _ {out' : List ℕ} (replies : (bytes : List ℕ)
      → IsKeptLine bytes intake.long intake.line.items
      → out' ≡ out ++ reply_to rules state (line_of bytes)) where
    -- with the reply to the last line, all is answered
    last_due : s.text ++ out' ≡ output_of rules began.state given
    last_due = rw (replies (unended_line given) s.come.kept, ← append_assoc, s.due, s.answered)
        (sym (output_last rules began.state given))

    -- all is written then
    pub stands_output : (w' : Option (List ℕ)) → Appends w w' out'
        → Appends began.written w' (output_of rules began.state given)
    stands_output w' a =
        rw last_due at (Appends-trans began.written w w' s.text out' s.appended a)

    -- or the last reply waits
    pub stands_last : Fronts rules began given w out'
    stands_last = record {
      text = s.text;
      appended = s.appended;
      front = ([], rw append-nil last_due);
    }

  -- where nothing waits, just the lines that LF ended are answered
  pub stands_ended : out ≡ []
      → Appends began.written w (replies_to rules began.state (ended_lines given))
  stands_ended none = rw (← s.due, none, append-nil) s.appended

-- what has come of a piece, and its rest
pub given_rest : (given xs : List ℕ) (i : ℕ) → given ++ take i xs ++ drop i xs ≡ given ++ xs
given_rest given xs i = rw (append_assoc, take-append-drop)

-- of a run of bytes that stand in a piece at a place
module _ (xs run : List ℕ) (i : ℕ) (is : run ≡ take (length run) (drop i xs)) where
  -- what has come of the piece after it and the LF that follows it
  pub line_taken : i + length run < length xs → get_or xs (i + length run) 0 ≡ 10
      → take i xs ++ (run ++ 10 ∷ []) ≡ take (i + length run + 1) xs
  line_taken within next = sym (rw (
    take_more xs (i + length run) 0 within,
    next,
    take-add i (length run) xs,
    ← is,
  ) (append_assoc (take i xs) run (10 ∷ [])))

-- what has come with an input before a piece
pub more_taken : (given front run whole : List ℕ) → front ++ run ≡ whole
    → given ++ whole ≡ (given ++ front) ++ run
more_taken given front run whole is =
    ap (λ (l : List ℕ). given ++ l) (sym is) ∙ sym (append_assoc given front run)

-- a line of a piece, and the rest of the piece
pub line_rest : (given xs run : List ℕ) (i n : ℕ) → take i xs ++ (run ++ 10 ∷ []) ≡ take n xs
    → (given ++ take i xs) ++ (run ++ 10 ∷ drop n xs) ≡ given ++ xs
line_rest given xs run i n is =
    ap (λ (l : List ℕ). (given ++ take i xs) ++ l) (sym (append_assoc run (10 ∷ []) (drop n xs)))
    ∙ sym (append_assoc (given ++ take i xs) (run ++ 10 ∷ []) (drop n xs))
    ∙ ap (λ (l : List ℕ). l ++ drop n xs)
    (sym (more_taken given (take i xs) (run ++ 10 ∷ []) (take n xs) is))
    ∙ given_rest given xs n

-- before the end of a piece the lines before the one in progress are answered
pub halted_at : {State : Type 0} {rules : Rules State} {began : Began State} (given xs : List ℕ)
    (i : ℕ) {w : Option (List ℕ)} {state : State} {intake : Intake} {out : List ℕ}
    → i < length xs → RunStands rules began (given ++ take i xs) w state intake out
    → Halts rules began (given ++ xs) w out
halted_at given xs i within s =
    stands_halts s (drop i xs) (given_rest given xs i) (λ none. omega (
      arith,
      within,
      ap (length {A = ℕ}) none,
      length-append (unended_line (given ++ take i xs)) (drop i xs),
      length-drop i xs,
    ))

-- a list and then more, from a place in it
take_rest : (xs more : List ℕ) (n : ℕ) → take n xs ++ (drop n xs ++ more) ≡ xs ++ more
take_rest xs more n = rw (← append_assoc, take-append-drop)

module _ {State : Type 0} {rules : Rules State} {began : Began State} {given : List ℕ}
    {w w' : Option (List ℕ)} {out : List ℕ} where
  -- a write of a front of what waits leaves a front of the output
  pub fronts_handed : Fronts rules began given w out → (n : ℕ) × Appends w w' (take n out)
      → Fronts rules began given w' []
  fronts_handed f part = record {
    text = f.text ++ take part.0 out;
    appended = Appends-trans began.written w w' f.text (take part.0 out) f.appended part.1;
    front = (
      drop part.0 out ++ f.front.0,
      let same : ((f.text ++ take part.0 out) ++ []) ++ (drop part.0 out ++ f.front.0)
          ≡ (f.text ++ out) ++ f.front.0 =
          simp (append_assoc, append-nil, take_rest out f.front.0 part.0) in
          same ∙ f.front.1,
    );
  }

  -- and so does a write of all
  pub fronts_all : Fronts rules began given w out → Appends w w' out
      → Fronts rules began given w' []
  fronts_all f a = fronts_handed f (length out, rw (take_all (length out) out (omega arith)) a)

  -- lines stay answered where the replies that wait are written
  pub halts_handed : Halts rules began given w out → Appends w w' out
      → Halts rules began given w' []
  halts_handed h a = record {
    lines = h.lines;
    next = h.next;
    rest = h.rest;
    front = h.front;
    text = h.text ++ out;
    appended = Appends-trans began.written w w' h.text out h.appended a;
    due = append-nil (h.text ++ out) ∙ h.due;
  }
