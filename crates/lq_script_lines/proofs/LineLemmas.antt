-- How an input is cut into lines, and what is written for lines one after another.
use Rattle.std.proofs.Common.{◌≡◌, ◌≢◌, ◌==◌, ℕ, zero, suc, ◌+◌, ◌-◌, ◌<◌, ◌≤◌, ◌++◌, List, [], ◌∷◌, take, drop, get_or, length, Option, None, Some, Bool, true, false, refl, sym, ap, ◌∙◌, subst, arith, append_assoc, append-nil, take-append-drop}
use Rattle.std.proofs.lemmas.Bool.Decides.{nat_tests}
use Rattle.std.proofs.lemmas.List.{drop_more, take_all}
use Rattle.std.specs.Prelude.{IfNone, IfSome, if◌then◌else◌, unwrap_or}
use Rattle.memchr.specs.Find.{IsFirstByte, Nowhere, Passes, is_byte}
use Rattle.std.proofs.lemmas.Bool.{false_from_ne_true}
use Rattle.lq_script_lines.specs.Lines.{IsUnbroken, Rules, before_ended, before_last, ended_lines, line_of, lines_of, replies_to, reply_to, state_after, unended_line, with_front}
use Rattle.lq_script_lines.specs.Progress.{state_after_all}

-- the first line, and the first that LF ended, end at the first LF
line_cut : (bytes rest : List ℕ) → IsUnbroken bytes
    → (lines_of (bytes ++ 10 ∷ rest) ≡ bytes ∷ lines_of rest)
    × (ended_lines (bytes ++ 10 ∷ rest) ≡ bytes ∷ ended_lines rest)
line_cut [] rest u = (refl, refl)
line_cut (a ∷ bytes) rest u =
    let cut = line_cut bytes rest u.1 in (rw (u.0, cut.0), rw (u.0, cut.1))

-- bytes without an LF are one line
pub lines_one : (a : ℕ) (bytes : List ℕ) → IsUnbroken (a ∷ bytes)
    → lines_of (a ∷ bytes) ≡ (a ∷ bytes) ∷ []
lines_one a [] u = rw u.0
lines_one a (b ∷ bytes) u = rw (u.0, lines_one b bytes u.1)

-- there is a first line
abbrev pub HasLine : List (List ℕ) → Type 0
HasLine lines = (next : List ℕ) × ((rest : List (List ℕ)) × (lines ≡ next ∷ rest))

-- some bytes begin with a line
pub line_begins : (bytes : List ℕ) → (bytes ≡ [] → ⊥) → HasLine (lines_of bytes)
line_begins [] some = absurd (some refl)
line_begins (b ∷ bs) some = by (b == 10) (lines_of bs)
  where
    by : (ends : Bool) (lines : List (List ℕ))
        → HasLine (if ends then [] ∷ lines else with_front b lines)
    by true lines = ([], (lines, refl))
    by false [] = (b ∷ [], ([], refl))
    by false (line ∷ lines) = (b ∷ line, (lines, refl))

-- they have no line that LF ended
ended_none : (bytes : List ℕ) → IsUnbroken bytes → ended_lines bytes ≡ []
ended_none [] u = refl
ended_none (a ∷ bytes) u = rw (u.0, ended_none bytes u.1)

-- what is written for a last line
last_reply : {State : Type 0} (rules : Rules State) (state : State) (bytes : List ℕ)
    → IsUnbroken bytes
    → replies_to rules state (lines_of bytes) ≡ reply_to rules state (line_of bytes)
last_reply rules state [] u = refl
last_reply rules state (a ∷ bytes) u = rw (lines_one a bytes u, append-nil)

-- bytes without an LF and others without one have none together
unbroken_append : (bytes more : List ℕ) → IsUnbroken bytes → IsUnbroken more
    → IsUnbroken (bytes ++ more)
unbroken_append [] more u v = v
unbroken_append (a ∷ bytes) more u v = (u.0, unbroken_append bytes more u.1 v)

-- before a place that no LF stands before, the bytes have none
unbroken_before : (xs : List ℕ) (n j : ℕ) → Nowhere (Passes (is_byte 10) xs) 0 j → n ≤ j
    → IsUnbroken (take n xs)
unbroken_before xs zero j none le = tt
unbroken_before [] (suc n) j none le = tt
unbroken_before (x ∷ xs) (suc n) j none le = (
  false_from_ne_true (x == 10) (none 0 (omega arith) (omega arith)),
  unbroken_before xs n (j - 1) (λ k low high. none (suc k) (omega arith) (omega arith))
      (omega arith),
)

-- the bytes up to the first LF have none
pub unbroken_first : (xs : List ℕ) (r : Option ℕ) (n : ℕ)
    → IsFirstByte (is_byte 10) xs r → n ≤ unwrap_or r (length xs) → IsUnbroken (take n xs)
unbroken_first xs None n none le = unbroken_before xs n (length xs) none le
unbroken_first xs (Some k) n first le = unbroken_before xs n k first.0.before le

-- bytes without an LF are at most one line
pub lines_few : (bytes : List ℕ) → IsUnbroken bytes → length (lines_of bytes) ≤ 1
lines_few [] u = omega arith
lines_few (a ∷ bytes) u = rw (lines_one a bytes u) (omega arith)

-- they are the line in progress
unended_all : (bytes : List ℕ) → IsUnbroken bytes → unended_line bytes ≡ bytes
unended_all [] u = refl
unended_all (a ∷ bytes) u = rw (u.0, ended_none bytes u.1, unended_all bytes u.1)

-- the line in progress has no LF
pub unended_unbroken : (given : List ℕ) → IsUnbroken (unended_line given)
unended_unbroken [] = tt
unended_unbroken (b ∷ bs) = by (b == 10) refl (ended_lines bs) (unended_unbroken bs)
  where
    by : (x : Bool) → (b == 10) ≡ x → (ended : List (List ℕ)) → IsUnbroken (unended_line bs)
        → IsUnbroken (if x then unended_line bs else before_last b ended (unended_line bs))
    by true e ended u = u
    by false e [] u = (e, u)
    by false e (line ∷ ended) u = u

-- The lines of an input and what follows it: those that LF ended, then those of the line in
-- progress with what follows.
pub lines_ahead : (given rest : List ℕ)
    → lines_of (given ++ rest) ≡ ended_lines given ++ lines_of (unended_line given ++ rest)
lines_ahead [] rest = refl
lines_ahead (b ∷ bs) rest =
    by (b == 10) refl (ended_lines bs) (unended_line bs) (lines_ahead bs rest)
  where
    by : (x : Bool) → (b == 10) ≡ x → (ended : List (List ℕ)) (last : List ℕ)
        → lines_of (bs ++ rest) ≡ ended ++ lines_of (last ++ rest)
        → (if x then [] ∷ lines_of (bs ++ rest) else with_front b (lines_of (bs ++ rest)))
        ≡ (if x then [] ∷ ended else before_ended b ended)
        ++ lines_of ((if x then last else before_last b ended last) ++ rest)
    by true e ended last h = ap (λ (l : List (List ℕ)). [] ∷ l) h
    by false e [] last h = rw e (ap (with_front b) h)
    by false e (line ∷ ended) last h = ap (with_front b) h

-- and so are those of them that LF ended
pub ended_ahead : (given rest : List ℕ)
    → ended_lines (given ++ rest) ≡ ended_lines given ++ ended_lines (unended_line given ++ rest)
ended_ahead [] rest = refl
ended_ahead (b ∷ bs) rest =
    by (b == 10) refl (ended_lines bs) (unended_line bs) (ended_ahead bs rest)
  where
    by : (x : Bool) → (b == 10) ≡ x → (ended : List (List ℕ)) (last : List ℕ)
        → ended_lines (bs ++ rest) ≡ ended ++ ended_lines (last ++ rest)
        → (if x then [] ∷ ended_lines (bs ++ rest) else before_ended b (ended_lines (bs ++ rest)))
        ≡ (if x then [] ∷ ended else before_ended b ended)
        ++ ended_lines ((if x then last else before_last b ended last) ++ rest)
    by true e ended last h = ap (λ (l : List (List ℕ)). [] ∷ l) h
    by false e [] last h = rw e (ap (before_ended b) h)
    by false e (line ∷ ended) last h = ap (before_ended b) h

-- bytes without an LF end no line
pub ended_run : (given more : List ℕ) → IsUnbroken more
    → ended_lines (given ++ more) ≡ ended_lines given
ended_run given more u = rw (
  ended_ahead given more,
  ended_none (unended_line given ++ more)
      (unbroken_append (unended_line given) more (unended_unbroken given) u),
  append-nil,
) refl

-- they are added to the line in progress
pub unended_run : (given more : List ℕ) → IsUnbroken more
    → unended_line (given ++ more) ≡ unended_line given ++ more
unended_run [] more u = unended_all more u
unended_run (b ∷ bs) more u =
    rw (ended_run bs more u, unended_run bs more u) (by (b == 10) (ended_lines bs))
  where
    by : (x : Bool) (ended : List (List ℕ))
        → (if x then unended_line bs ++ more else before_last b ended (unended_line bs ++ more))
        ≡ (if x then unended_line bs else before_last b ended (unended_line bs)) ++ more
    by true ended = refl
    by false [] = refl
    by false (line ∷ ended) = refl

-- an LF ends the line in progress
pub ended_lf : (given : List ℕ)
    → ended_lines (given ++ 10 ∷ []) ≡ ended_lines given ++ unended_line given ∷ []
ended_lf given =
    ended_ahead given (10 ∷ [])
    ∙ ap (λ (l : List (List ℕ)). ended_lines given ++ l)
    (line_cut (unended_line given) [] (unended_unbroken given)).1

-- and the next one is empty
pub unended_lf : (given : List ℕ) → unended_line (given ++ 10 ∷ []) ≡ []
unended_lf [] = refl
unended_lf (b ∷ bs) = rw (ended_lf bs, unended_lf bs) (by (b == 10) (ended_lines bs))
  where
    by : (x : Bool) (ended : List (List ℕ))
        → (if x then [] else before_last b (ended ++ unended_line bs ∷ []) []) ≡ []
    by true ended = refl
    by false [] = refl
    by false (line ∷ ended) = refl

-- bytes and an LF end the line in progress
pub ended_line : (given run : List ℕ) → IsUnbroken run → ended_lines (given ++ (run ++ 10 ∷ []))
    ≡ ended_lines given ++ (unended_line given ++ run) ∷ []
ended_line given run u =
    ap ended_lines (sym (append_assoc given run (10 ∷ [])))
    ∙ ended_lf (given ++ run)
    ∙ rw (ended_run given run u, unended_run given run u) refl

pub unended_ended : (given run : List ℕ) → unended_line (given ++ (run ++ 10 ∷ [])) ≡ []
unended_ended given run =
    ap unended_line (sym (append_assoc given run (10 ∷ []))) ∙ unended_lf (given ++ run)

-- the lines of an input
pub lines_whole : (given : List ℕ)
    → lines_of given ≡ ended_lines given ++ lines_of (unended_line given)
lines_whole given = simp append-nil at (lines_ahead given [])

-- those where no line is in progress
pub lines_all : (given : List ℕ) → unended_line given ≡ [] → lines_of given ≡ ended_lines given
lines_all given none = lines_whole given ∙ rw (none, append-nil) refl

-- and where one is
pub lines_last : (given : List ℕ) → unended_line given ≢ []
    → lines_of given ≡ ended_lines given ++ unended_line given ∷ []
lines_last given some =
    lines_whole given
    ∙ ap (λ (l : List (List ℕ)). ended_lines given ++ l)
    (by (unended_line given) (unended_unbroken given) some)
  where
    by : (bytes : List ℕ) → IsUnbroken bytes → bytes ≢ [] → lines_of bytes ≡ bytes ∷ []
    by [] u more = absurd (more refl)
    by (a ∷ bytes) u more = lines_one a bytes u

-- the first line of a text ends at its first LF
first_ended : (text : List ℕ) (count : ℕ) → IsFirstByte (is_byte 10) text (Some count)
    → ended_lines text ≡ take count text ∷ ended_lines (drop (count + 1) text)
first_ended text count first =
    let within : count < length text = first.0.high in
    let last : get_or text count 0 ≡ 10 = grind (arith, nat_tests, first.1) in
    let parts : text ≡ take count text ++ 10 ∷ drop (count + 1) text =
    sym (take-append-drop count text)
    ∙ ap (λ (l : List ℕ). take count text ++ l) (drop_more text count 0 within)
    ∙ ap (λ (n : ℕ). take count text ++ n ∷ drop (count + 1) text) last in
    ap ended_lines parts
    ∙ (line_cut (take count text) (drop (count + 1) text)
    (unbroken_first text (Some count) count first (omega arith))).1

pub some_ended : (text : List ℕ) (r : Option ℕ) → IsFirstByte (is_byte 10) text r
    → IfSome r (λ count. ended_lines text ≡ take count text ∷ ended_lines (drop (count + 1) text))
some_ended text None first = tt
some_ended text (Some count) first = first_ended text count first

-- without LF it has no line
pub none_ended : (text : List ℕ) (r : Option ℕ) → IsFirstByte (is_byte 10) text r
    → IfNone r (ended_lines text ≡ [])
none_ended text (Some count) first = tt
none_ended text None first = ended_none text
    (subst IsUnbroken (take_all (length text) text (omega arith))
    (unbroken_first text None (length text) first (omega arith)))

-- the replies to lines and then to more
pub replies_append : {State : Type 0} (rules : Rules State) (state : State) (xs ys : List (List ℕ))
    → replies_to rules state (xs ++ ys)
    ≡ replies_to rules state xs ++ replies_to rules (state_after_all rules state xs) ys
replies_append rules state [] ys = refl
replies_append rules state (x ∷ xs) ys =
    rw (replies_append rules (state_after rules state (line_of x)) xs ys, append_assoc)

-- the replies to lines and then to one more
pub replies_one : {State : Type 0} (rules : Rules State) (state : State) (xs : List (List ℕ))
    (y : List ℕ) → replies_to rules state (xs ++ y ∷ [])
    ≡ replies_to rules state xs ++ reply_to rules (state_after_all rules state xs) (line_of y)
replies_one rules state xs y = rw (replies_append rules state xs (y ∷ []), append-nil)

-- the state after lines and then one more
pub state_one : {State : Type 0} (rules : Rules State) (state : State) (xs : List (List ℕ))
    (y : List ℕ) → state_after_all rules state (xs ++ y ∷ [])
    ≡ state_after rules (state_after_all rules state xs) (line_of y)
state_one rules state [] y = refl
state_one rules state (x ∷ xs) y = state_one rules (state_after rules state (line_of x)) xs y

-- the output of an input whose last line is answered too
pub output_last : {State : Type 0} (rules : Rules State) (state : State) (given : List ℕ)
    → replies_to rules state (lines_of given) ≡ replies_to rules state (ended_lines given)
    ++ reply_to rules (state_after_all rules state (ended_lines given))
    (line_of (unended_line given))
output_last rules state given =
    rw (
      lines_whole given,
      replies_append rules state (ended_lines given) (lines_of (unended_line given)),
      last_reply rules (state_after_all rules state (ended_lines given)) (unended_line given)
          (unended_unbroken given),
    ) refl
