-- Lines that are handed on as they come, and are cut again.
use Rattle.std.proofs.Common.{◌≡◌, ◌≢◌, ◌⊎◌, inl, inr, ℕ, ◌-◌, ◌<◌, ◌++◌, List, [], ◌∷◌, length, take, get_or, true, false, Bool, Option, Result, Err, refl, sym, ap, ◌∙◌, subst, append_assoc, append-nil, zero, suc}
use Rattle.std.specs.List.{AllByRecursion}
use Rattle.std.proofs.lemmas.List.Elements.{All-append, All-from_recursion, recursion_from_All}
use Rattle.std.specs.Io.BufRead.{ends_with_byte}
use Rattle.std.specs.Prelude.{◌==◌, nat_lt, if◌then◌else◌}
use Rattle.std.specs.Io.KnownBytes.{Consumes}
use Rattle.lq_script_lines.specs.declared.intake.Intake.{Intake}
use Rattle.lq_script_lines.specs.Lines.{IsUnbroken, Line, LinesEnd, LinesGrow, long, empty, whole, before_ended, ended_lines, given_line, line_of, lines_of, reply_to, unended_line, with_front, without_cr}
use Rattle.lq_script_lines.specs.Output.{IsWithinInput}
use Rattle.lq_script_lines.specs.Progress.{HasCome}
use Rattle.lq_script_lines.specs.declared.run_fault.RunFault.{RunFault}
use Rattle.lq_script_lines.specs.declared.run_fault.RunFault.TheVariants.{Limit, Memory}
use Rattle.lq_script.specs.Input.{HandsEnded, Hands, HandsPart, PassesIn, StopsReading, handed, handed_all}

-- ---- lines that are handed on

-- no line
pub hands_none : (from : List (List ℕ)) (text : List ℕ) → Hands from from text text
hands_none from text = record {
  lines = [];
  split = sym (append-nil from);
  unbroken = tt;
  text = sym (append-nil text);
}

-- lines, and then more
handed_append : (xs ys : List (List ℕ)) → handed_all (xs ++ ys) ≡ handed_all xs ++ handed_all ys
handed_append [] ys = refl
handed_append (x ∷ xs) ys =
    ap (λ (l : List ℕ). handed (line_of x) ++ l) (handed_append xs ys)
    ∙ sym (append_assoc (handed (line_of x)) (handed_all xs) (handed_all ys))

pub hands_then : {a b c : List (List ℕ)} {old mid new : List ℕ} → Hands a b old mid
    → Hands b c mid new → Hands a c old new
hands_then {a} {old} h k = record {
  lines = h.lines ++ k.lines;
  split =
      k.split
      ∙ ap (λ (l : List (List ℕ)). l ++ k.lines) h.split
      ∙ append_assoc a h.lines k.lines;
  unbroken = recursion_from_All IsUnbroken (h.lines ++ k.lines)
      (All-append IsUnbroken h.lines k.lines (All-from_recursion IsUnbroken h.lines h.unbroken)
      (All-from_recursion IsUnbroken k.lines k.unbroken));
  text =
      k.text
      ∙ ap (λ (l : List ℕ). l ++ handed_all k.lines) h.text
      ∙ append_assoc old (handed_all h.lines) (handed_all k.lines)
      ∙ ap (λ (l : List ℕ). old ++ l) (sym (handed_append h.lines k.lines));
}

-- one line
pub hands_one : {from to : List (List ℕ)} {old new : List ℕ} (line : List ℕ)
    → to ≡ from ++ line ∷ [] → IsUnbroken line → new ≡ old ++ handed (line_of line)
    → Hands from to old new
hands_one {old} line split u text = record {
  lines = line ∷ [];
  split = split;
  unbroken = (u, tt);
  text = text ∙ ap (λ (l : List ℕ). old ++ l) (sym (append-nil (handed (line_of line))));
}

-- the line in progress at the end of an input, unless it is empty
hands_rest : {from to : List (List ℕ)} {old new : List ℕ} (bytes : List ℕ) → IsUnbroken bytes
    → (bytes ≡ [] → to ≡ from) → (bytes ≢ [] → to ≡ from ++ bytes ∷ [])
    → new ≡ old ++ handed (line_of bytes) → Hands from to old new
hands_rest {from} [] u none last text = record {
  lines = [];
  split = none refl ∙ sym (append-nil from);
  unbroken = tt;
  text = text;
}
hands_rest (a ∷ bytes) u none last text =
    hands_one (a ∷ bytes) (last (λ e. let no : (a ∷ bytes) ≡ [] = e in cc)) u text

-- ---- lines as they come

-- a line that is answered by itself is handed on
pub reply_handed : (l : Line) (s : ℕ) (after : ℕ → List ℕ → ℕ)
    → reply_to {State = ℕ} (record {
      reply = λ _ line. line ++ 10 ∷ [];
      after = after;
      long = 10 ∷ [];
    }) s l ≡ handed l
reply_handed long s after = refl
reply_handed empty s after = refl
reply_handed (whole bytes) s after = refl

-- an LF ended a line, which is handed on
pub hands_line : LinesGrow → LinesEnd → {old new : List ℕ} (given run : List ℕ) → IsUnbroken run
    → new ≡ old ++ handed (line_of (unended_line given ++ run))
    → HandsEnded given (given ++ (run ++ 10 ∷ [])) old new
hands_line grow end given run u =
    hands_one (unended_line given ++ run)
    (ap ended_lines (sym (append_assoc given run (10 ∷ [])))
    ∙ grow.ended (given ++ run)
    ∙ rw (grow.same given run u, grow.added given run u) refl)
    (subst IsUnbroken (grow.added given run u) (end.unbroken (given ++ run)))

-- no line ended
pub hands_run : LinesGrow → (old given run : List ℕ) → IsUnbroken run
    → HandsEnded given (given ++ run) old old
hands_run grow old given run u =
    subst (λ (l : List (List ℕ)). Hands (ended_lines given) l old old)
    (sym (grow.same given run u)) (hands_none (ended_lines given) old)

-- the last line, if there is one, is handed on
pub hands_last : LinesEnd → {old new : List ℕ} (given : List ℕ)
    → new ≡ old ++ handed (line_of (unended_line given))
    → Hands (ended_lines given) (lines_of given) old new
hands_last end given =
    hands_rest (unended_line given) (end.unbroken given) (end.all given) (end.last given)

-- a limit was met in a piece
pub passes_at : {given piece old new : List ℕ} {intake : Intake} (at : ℕ) → at < length piece
    → HasCome (given ++ take at piece) intake
    → ¬ IsWithinInput ((given ++ take at piece) ++ get_or piece at 0 ∷ [])
    → HandsEnded given (given ++ take at piece) old new → PassesIn given piece old new
passes_at at follows come passes hands = record {
  count = at;
  follows = follows;
  hands = hands;
  within = come.within;
  passes = passes;
}

-- a read that stopped in a piece
pub stops_in : (given piece text : List ℕ) (left left' : Option (List ℕ)) (failed : Bool)
    (e : RunFault) {old : List ℕ} → (e ≡ Limit) ⊎ (e ≡ Memory) → old ≡ []
    → Consumes left left' piece
    → (◌≡◌ {A = Result (Unit {0}) RunFault} (Err e) (Err Limit) → PassesIn given piece old text)
    → (◌≡◌ {A = Result (Unit {0}) RunFault} (Err e) (Err Memory) → HandsPart given piece old text)
    → StopsReading e given left left' failed text
stops_in given piece text left left' failed e (inl is) none consumed limit memory =
    subst (λ (f : RunFault). StopsReading f given left left' failed text) (sym is) (
      piece,
      (consumed, subst (λ (o : List ℕ). PassesIn given piece o text) none (limit (ap Err is))),
    )
stops_in given piece text left left' failed e (inr is) none consumed limit memory =
    subst (λ (f : RunFault). StopsReading f given left left' failed text) (sym is) (
      piece,
      (consumed, subst (λ (o : List ℕ). HandsPart given piece o text) none (memory (ap Err is))),
    )

-- ---- lines that were handed on are cut again

-- the first line ends at the first LF
cut_first : (bytes rest : List ℕ) → IsUnbroken bytes
    → ended_lines (bytes ++ 10 ∷ rest) ≡ bytes ∷ ended_lines rest
cut_first [] rest u = refl
cut_first (a ∷ bytes) rest u = rw (u.0, cut_first bytes rest u.1)

-- what is handed on of a line, as lines
abbrev pub given_of : Line → List (List ℕ)
given_of long = [] ∷ []
given_of empty = []
given_of (whole bytes) = bytes ∷ []

-- bytes that a line may be given by have no LF
abbrev IsWhole : Line → Type 0
IsWhole long = Unit {0}
IsWhole empty = Unit {0}
IsWhole (whole bytes) = IsUnbroken bytes

-- a front of bytes without an LF has none
take_unbroken : (n : ℕ) (bytes : List ℕ) → IsUnbroken bytes → IsUnbroken (take n bytes)
take_unbroken zero bytes u = tt
take_unbroken (suc n) [] u = tt
take_unbroken (suc n) (a ∷ bytes) u = (u.0, take_unbroken n bytes u.1)

-- nor have they without a CR at the end
strip_unbroken : (bytes : List ℕ) → IsUnbroken bytes → IsUnbroken (without_cr bytes)
strip_unbroken bytes u = by (ends_with_byte 13 bytes)
  where
    by : (x : Bool) → IsUnbroken (if x then take (length bytes - 1) bytes else bytes)
    by true = take_unbroken (length bytes - 1) bytes u
    by false = u

given_whole : (bytes : List ℕ) → IsUnbroken bytes → IsWhole (given_line bytes)
given_whole [] u = tt
given_whole (b ∷ bytes) u = u

line_whole : (bytes : List ℕ) → IsUnbroken bytes → IsWhole (line_of bytes)
line_whole bytes u = by (nat_lt 65536 (length bytes))
  where
    by : (x : Bool) → IsWhole (if x then long else given_line (without_cr bytes))
    by true = tt
    by false = given_whole (without_cr bytes) (strip_unbroken bytes u)

cut_handed : (l : Line) (rest : List ℕ) → IsWhole l
    → ended_lines (handed l ++ rest) ≡ given_of l ++ ended_lines rest
cut_handed long rest u = refl
cut_handed empty rest u = refl
cut_handed (whole bytes) rest u =
    ap ended_lines (append_assoc bytes (10 ∷ []) rest) ∙ cut_first bytes rest u

abbrev pub given_all : List (List ℕ) → List (List ℕ)
given_all [] = []
given_all (bytes ∷ lines) = given_of (line_of bytes) ++ given_all lines

pub cut_all : (lines : List (List ℕ)) → AllByRecursion IsUnbroken lines
    → ended_lines (handed_all lines) ≡ given_all lines
cut_all [] u = refl
cut_all (bytes ∷ lines) u =
    cut_handed (line_of bytes) (handed_all lines) (line_whole bytes u.0)
    ∙ ap (λ (l : List (List ℕ)). given_of (line_of bytes) ++ l) (cut_all lines u.1)

-- ---- a front of an input

-- the lines that LF ended in a front of an input are its first ones
pub ended_front : (xs ys : List ℕ)
    → (rest : List (List ℕ)) × (lines_of (xs ++ ys) ≡ ended_lines xs ++ rest)
ended_front [] ys = (lines_of ys, refl)
ended_front (b ∷ xs) ys = by (b == 10) (ended_lines xs) (ended_front xs ys)
  where
    by : (x : Bool) (ended : List (List ℕ))
        → (rest : List (List ℕ)) × (lines_of (xs ++ ys) ≡ ended ++ rest)
        → (rest : List (List ℕ))
        × ((if x then [] ∷ lines_of (xs ++ ys) else with_front b (lines_of (xs ++ ys)))
        ≡ (if x then [] ∷ ended else before_ended b ended) ++ rest)
    by true ended h = (h.0, ap (λ (l : List (List ℕ)). [] ∷ l) h.1)
    by false [] h = (with_front b (lines_of (xs ++ ys)), refl)
    by false (line ∷ ended) h = (h.0, ap (with_front b) h.1)
