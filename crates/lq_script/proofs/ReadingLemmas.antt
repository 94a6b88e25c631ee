-- What a run has read, from what its reads gave.
use Rattle.std.proofs.Common.{◌≡◌, ℕ, ◌+◌, List, [], ◌∷◌, ◌++◌, map, take, drop, get_or, Option, Bool, true, false, Result, Ok, Err, refl, sym, ap, ◌∙◌, subst, append_assoc, append-nil, length, take-append-drop}
use Rattle.std.proofs.lemmas.List.{drop_more, map-append}
use Rattle.std.proofs.KnownBytes.{Consumes-kept, Consumes-trans}
use Rattle.std.specs.Io.KnownBytes.{Consumes}
use Rattle.std.specs.Prelude.{nat_lt, if◌then◌else◌}
use mathlib.Core.List.{IsPrefix}
use Rattle.lq_script_lines.specs.declared.intake.Intake.{Intake}
use Rattle.lq_script_lines.specs.Lines.{long, ended_lines, given_line, line_of, lines_of, without_cr}
use Rattle.lq_script_lines.specs.Outcome.{log_of_reader}
use Rattle.lq_script_lines.specs.declared.run_fault.RunFault.{RunFault}
use Rattle.lq_script_lines.specs.declared.run_fault.RunFault.TheVariants.{Read, Write, Limit, Memory, Thread}
use Rattle.lq_script.specs.Asked.{Asked, asked_by, asked_by_all, asked_in, asked_of}
use Rattle.lq_script.specs.Input.{GoesOn, Hands, ReadsOn, StopsReading}
use Rattle.lq_script.specs.Reading.{HasReadAfter, HasReadAll, HasReadSome}
use Rattle.lq_script.proofs.InputLemmas.{cut_all, ended_front, given_all, given_of}

-- ---- what lines ask that were handed on

given_asked : (bytes : List ℕ)
    → map asked_by (given_of (given_line bytes)) ≡ asked_of (given_line bytes)
given_asked [] = refl
given_asked (b ∷ bytes) = refl

line_asked : (bytes : List ℕ) → map asked_by (given_of (line_of bytes)) ≡ asked_of (line_of bytes)
line_asked bytes = by (nat_lt 65536 (length bytes))
  where
    by : (x : Bool) → map asked_by (given_of (if x then long else given_line (without_cr bytes)))
        ≡ asked_of (if x then long else given_line (without_cr bytes))
    by true = refl
    by false = given_asked (without_cr bytes)

all_asked : (lines : List (List ℕ)) → map asked_by (given_all lines) ≡ asked_in lines
all_asked [] = refl
all_asked (bytes ∷ lines) =
    map-append asked_by (given_of (line_of bytes)) (given_all lines)
    ∙ ap (λ (l : List Asked). l ++ map asked_by (given_all lines)) (line_asked bytes)
    ∙ ap (λ (l : List Asked). asked_of (line_of bytes) ++ l) (all_asked lines)

-- what lines ask, and more
pub asked_append : (xs ys : List (List ℕ)) → asked_in (xs ++ ys) ≡ asked_in xs ++ asked_in ys
asked_append [] ys = refl
asked_append (x ∷ xs) ys =
    ap (λ (l : List Asked). asked_of (line_of x) ++ l) (asked_append xs ys)
    ∙ sym (append_assoc (asked_of (line_of x)) (asked_in xs) (asked_in ys))

-- the lines that LF ended in a front of what was read are its first ones
pub front_asked : (given more : List ℕ)
    → IsPrefix (asked_in (ended_lines given)) (asked_in (lines_of (given ++ more)))
front_asked given more =
    let front = ended_front given more in (
      asked_in front.0,
      sym (asked_append (ended_lines given) front.0) ∙ ap asked_in (sym front.1),
    )

pub front_alone : (given : List ℕ)
    → IsPrefix (asked_in (ended_lines given)) (asked_in (lines_of given))
front_alone given =
    subst (λ (l : List ℕ). IsPrefix (asked_in (ended_lines given)) (asked_in (lines_of l)))
    (append-nil given) (front_asked given [])

-- lines that were handed on ask what they ask in the input
pub hands_asked : {from to : List (List ℕ)} {text : List ℕ} → Hands from to [] text
    → asked_in from ++ asked_by_all text ≡ asked_in to
hands_asked {from} {to} {text} h =
    ap (λ (l : List Asked). asked_in from ++ l)
    (ap asked_by_all h.text
    ∙ ap (λ (l : List (List ℕ)). map asked_by l) (cut_all h.lines h.unbroken)
    ∙ all_asked h.lines)
    ∙ sym (asked_append from h.lines)
    ∙ ap asked_in (sym h.split)

-- ---- what was read

-- what has come with a part of a piece, and the rest of it
given_rest : (given xs : List ℕ) (i : ℕ) → (given ++ take i xs) ++ drop i xs ≡ given ++ xs
given_rest given xs i = rw (append_assoc, take-append-drop)

module _ (given : List ℕ) (left left' left'' : Option (List ℕ))
    (consumed : Consumes left left' given) (failed : Bool) (text : List ℕ) where
  -- the lines of a part of a piece are first ones
  part_read : (piece : List ℕ) (count : ℕ) → Consumes left' left'' piece
      → Hands (ended_lines given) (ended_lines (given ++ take count piece)) [] text
      → HasReadSome (log_of_reader left left'' failed)
      (asked_in (ended_lines given) ++ asked_by_all text)
  part_read piece count more hands = record {
    given = given ++ piece;
    consumed = Consumes-trans left left' left'' given piece consumed more;
    front = subst (λ (l : List Asked). IsPrefix l (asked_in (lines_of (given ++ piece))))
        (sym (hands_asked hands))
        (subst (λ (l : List ℕ). IsPrefix (asked_in (ended_lines (given ++ take count piece)))
        (asked_in (lines_of l))) (given_rest given piece count)
        (front_asked (given ++ take count piece) (drop count piece)));
  }

  -- what was read before a fault of a read
  pub read_after : (e : RunFault) → StopsReading e given left' left'' failed text
      → HasReadAfter e (log_of_reader left left'' failed)
      (asked_in (ended_lines given) ++ asked_by_all text)
  read_after Read stops = record {
    given = given;
    consumed = Consumes-kept left left' left'' given consumed stops.1;
    fails = stops.0;
    within = stops.2;
    asks =
        ap (λ (l : List ℕ). asked_in (ended_lines given) ++ asked_by_all l) stops.3
        ∙ append-nil (asked_in (ended_lines given));
  }
  read_after Write stops = absurd stops
  read_after Limit stops =
      let piece = stops.0 in
      let passes = stops.1.1 in
      record {
        given = given ++ take passes.count piece;
        next = get_or piece passes.count 0;
        rest = drop (passes.count + 1) piece;
        consumed = rw (← drop_more piece passes.count 0 passes.follows, given_rest)
            (Consumes-trans left left' left'' given piece consumed stops.1.0);
        within = passes.within;
        passes = passes.passes;
        asks = hands_asked passes.hands;
      }
  read_after Memory stops = part_read stops.0 stops.1.1.count stops.1.0 stops.1.1.hands
  read_after Thread stops = absurd stops

  -- what was read where a line of it failed
  pub read_some : (r : Result Bool RunFault) (intake : Intake)
      → ReadsOn r given left' left'' failed intake text
      → HasReadSome (log_of_reader left left'' failed)
      (asked_in (ended_lines given) ++ asked_by_all text)
  read_some (Ok true) intake reads = record {
    given = given ++ reads.piece;
    consumed = Consumes-trans left left' left'' given reads.piece consumed reads.consumed;
    front = subst (λ (l : List Asked). IsPrefix l (asked_in (lines_of (given ++ reads.piece))))
        (sym (hands_asked reads.hands)) (front_alone (given ++ reads.piece));
  }
  read_some (Ok false) intake reads = record {
    given = given;
    consumed = subst (Consumes left left'') (append-nil given)
        (Consumes-trans left left' left'' given [] consumed reads.consumed);
    front = ([], append-nil _ ∙ hands_asked reads.hands);
  }
  read_some (Err Read) intake reads = record {
    given = given;
    consumed = Consumes-kept left left' left'' given consumed reads.1;
    front = subst (λ (l : List Asked). IsPrefix l (asked_in (lines_of given)))
        (sym (ap (λ (l : List ℕ). asked_in (ended_lines given) ++ asked_by_all l) reads.3
        ∙ append-nil (asked_in (ended_lines given))))
        (front_alone given);
  }
  read_some (Err Write) intake reads = absurd reads
  read_some (Err Limit) intake reads =
      part_read reads.0 reads.1.1.count reads.1.0 reads.1.1.hands
  read_some (Err Memory) intake reads =
      part_read reads.0 reads.1.1.count reads.1.0 reads.1.1.hands
  read_some (Err Thread) intake reads = absurd reads

  -- all was read
  pub read_all : (more : Bool) (intake : Intake) (handed : List ℕ) → handed ≡ text → more ≡ false
      → ReadsOn (Ok more) given left' left'' failed intake handed
      → HasReadAll (log_of_reader left left'' failed)
      (asked_in (ended_lines given) ++ asked_by_all text)
  read_all true intake handed same is reads = absurd (let no : true ≡ false = is in cc)
  read_all false intake handed same is reads = record {
    given = given;
    consumed = subst (Consumes left left'') (append-nil given)
        (Consumes-trans left left' left'' given [] consumed reads.consumed);
    at_end = reads.at_end;
    within = reads.within;
    asks = hands_asked (subst (Hands (ended_lines given) (lines_of given) []) same reads.hands);
  }

-- there is more to read
pub goes_on : (more : Bool) (given : List ℕ) (left left' : Option (List ℕ)) (failed : Bool)
    (intake : Intake) (handed text : List ℕ) → handed ≡ text → more ≡ true
    → ReadsOn (Ok more) given left left' failed intake handed → GoesOn given left left' intake text
goes_on true given left left' failed intake handed text same is reads =
    subst (GoesOn given left left' intake) same reads
goes_on false given left left' failed intake handed text same is reads =
    absurd (let no : false ≡ true = is in cc)

-- ---- the lines of a text, one after another

-- the first line of a text, and the rest
pub first_asked : (text : List ℕ) (count : ℕ)
    → ended_lines text ≡ take count text ∷ ended_lines (drop (count + 1) text)
    → asked_by_all text ≡ asked_by (take count text) ∷ asked_by_all (drop (count + 1) text)
first_asked text count first = ap (λ (l : List (List ℕ)). map asked_by l) first

-- a text without LF has no line
pub none_asked : (text : List ℕ) → ended_lines text ≡ [] → asked_by_all text ≡ []
none_asked text none = ap (λ (l : List (List ℕ)). map asked_by l) none
