-- What each command does is what the program does with its arguments.
use Rattle.std.proofs.Common.{arith, ◌≡◌, ◌∙◌, ◌⊎◌, ◌≤◌, inl, inr, ℕ, Bool, true, false, refl, sym, ap, subst, codes, List, [], ◌∷◌, length, get_or, Option}
use Rattle.std.proofs.KnownBytes.{Appends-nil, Consumes-nil, Keeps-refl}
use Rattle.lq_script_lines.specs.Outcome.{WriterLog, log_of_reader, log_of_writer}
use Rattle.lq_script_lines.specs.Output.{Halted, NotBegun, Stopped, output_of}
use Rattle.lq_script_lines.specs.Words.{IsCheckOf, IsRun, IsThreads, IsUsage}
use Rattle.lq_script_lines.specs.declared.run_fault.RunFault.TheVariants.{Memory}
use Rattle.lq_script_desk.specs.Script.{script_session, world_rules}
use Rattle.lq_script.proofs.ProgressLemmas.{tells_none}
use Rattle.lq_script.specs.Outcome.{HasChecked, HasRun, HasRunThreads, IsOutcome, TellsFault, TellsLine, Transcript, transcript_of}
use Rattle.lq_script.specs.Written.{fault_line, usage_line}

-- `run` isn't `threads`
run_or_threads : (words : List (List ℕ)) → IsRun words → IsThreads words → ⊥
run_or_threads words run threads =
    absurd (let bad : codes "run" ∷ [] ≡ codes "threads" ∷ [] = sym run ∙ threads in cc)

-- a single word asks for no check
one_word : (words : List (List ℕ)) (word formula : List ℕ) → words ≡ word ∷ []
    → IsCheckOf words formula → ⊥
one_word words word formula is (inl check) =
    absurd (let bad : word ∷ [] ≡ codes "check" ∷ formula ∷ [] = sym is ∙ check.0 in cc)
one_word words word formula is (inr check) = absurd
    (let bad : word ∷ [] ≡ codes "check" ∷ codes "--" ∷ formula ∷ [] = sym is ∙ check in cc)

-- two words are not three
two_three : (n m : ℕ) → n ≡ 2 → m ≡ 3 → n ≡ m → ⊥
two_three n m e f g = omega arith

-- words ask for the check of one formula at most
one_formula : (words : List (List ℕ)) (f h : List ℕ) → IsCheckOf words f → IsCheckOf words h
    → f ≡ h
one_formula words f h (inl a) (inl b) = ap (λ l. get_or l 1 []) (sym a.0 ∙ b.0)
one_formula words f h (inl a) (inr b) =
    absurd (two_three 2 3 refl refl (ap length (sym a.0 ∙ b)))
one_formula words f h (inr a) (inl b) =
    absurd (two_three 2 3 refl refl (ap length (sym b.0 ∙ a)))
one_formula words f h (inr a) (inr b) = ap (λ l. get_or l 2 []) (sym a ∙ b)

-- with nothing read and nothing written, the run never began
pub never_began : (left written : Option (List ℕ))
    → Halted world_rules script_session left left written written
    ⊎ NotBegun left left written written
never_began left written = inr (refl, Keeps-refl written)

-- and a run that stopped so wrote a prefix
stopped_none : (left written : Option (List ℕ))
    → Stopped world_rules script_session left left written written
stopped_none left written = record {
  given = [];
  consumed = Consumes-nil left;
  text = [];
  appended = Appends-nil written;
  front = (output_of world_rules script_session [], refl);
}

module _ {R W F : Type 0} (words : List (List ℕ)) (status : ℕ) (t : Transcript R W F) where
  -- `run` was asked for
  pub after_run : IsRun words → HasRun status t → (status ≡ 0 → t.faults' ≡ t.faults)
      → (status ≡ 0 → t.wrote.flushed ≡ true) → (status ≡ 1 → TellsFault t)
      → IsOutcome words status t
  after_run run has quiet flushed fault = let low : status ≤ 1 = has.never_refused in record {
    at_most = omega arith;
    run = λ _. has;
    threads = λ threads. absurd (run_or_threads words run threads);
    check = λ formula check. absurd (one_word words (codes "run") formula run check);
    usage = λ usage two. absurd (usage.not_run run);
    other = λ usage. absurd (usage.not_run run);
    quiet = quiet;
    flushed = λ _. flushed;
    fault = λ _. fault;
    writes_nothing = λ two. absurd (let bad : ⊥ = omega arith in bad);
    reads_nothing = λ not_run _. absurd (not_run run);
  }

  -- `threads` was asked for
  pub after_threads : IsThreads words → HasRunThreads status t
      → (status ≡ 0 → t.faults' ≡ t.faults) → IsOutcome words status t
  after_threads threads has quiet = let low : status ≤ 1 = has.never_refused in record {
    at_most = omega arith;
    run = λ run. absurd (run_or_threads words run threads);
    threads = λ _. has;
    check = λ formula check. absurd (one_word words (codes "threads") formula threads check);
    usage = λ usage two. absurd (usage.not_threads threads);
    other = λ usage. absurd (usage.not_threads threads);
    quiet = quiet;
    flushed = λ none. absurd (none threads);
    fault = λ none. absurd (none threads);
    writes_nothing = λ two. absurd (let bad : ⊥ = omega arith in bad);
    reads_nothing = λ _ none. absurd (none threads);
  }

  -- the check of a formula was asked for
  pub after_check : (formula : List ℕ) → IsCheckOf words formula → HasChecked formula status t
      → status ≤ 2 → (status ≡ 0 → t.faults' ≡ t.faults) → (status ≡ 0 → t.wrote.flushed ≡ true)
      → (status ≡ 1 → TellsFault t) → (status ≡ 2 → t.writer' ≡ t.writer)
      → t.reader' ≡ t.reader → IsOutcome words status t
  after_check formula check has at_most quiet flushed fault writes_nothing reader = record {
    at_most = at_most;
    run = λ run. absurd (one_word words (codes "run") formula run check);
    threads = λ threads. absurd (one_word words (codes "threads") formula threads check);
    check = λ other asked. subst (λ f. HasChecked f status t)
        (one_formula words formula other check asked) has;
    usage = λ usage two. absurd (usage.not_check formula check);
    other = λ usage. absurd (usage.not_check formula check);
    quiet = quiet;
    flushed = λ _. flushed;
    fault = λ _. fault;
    writes_nothing = writes_nothing;
    reads_nothing = λ _ _. reader;
  }

  -- nothing that there is was asked for
  pub after_usage : IsUsage words → status ≡ 2 → TellsLine t usage_line → t.reader' ≡ t.reader
      → t.writer' ≡ t.writer → IsOutcome words status t
  after_usage usage two line reader writer = record {
    at_most = omega arith;
    run = λ run. absurd (usage.not_run run);
    threads = λ threads. absurd (usage.not_threads threads);
    check = λ formula check. absurd (usage.not_check formula check);
    usage = λ _ _. line;
    other = λ _. ((let some : 1 ≤ status = omega arith in some), writer);
    quiet = λ none. absurd (let bad : ⊥ = omega arith in bad);
    flushed = λ _ none. absurd (let bad : ⊥ = omega arith in bad);
    fault = λ _ one. absurd (let bad : ⊥ = omega arith in bad);
    writes_nothing = λ _. writer;
    reads_nothing = λ _ _. reader;
  }

-- there was no memory to read the words
pub without_memory : {R W F : Type 0} (words : List (List ℕ)) (status : ℕ) (reader : R)
    (writer : W) (faults faults' : F) (left written : Option (List ℕ))
    (failed failed' stalled flushed : Bool) (reported : WriterLog) → status ≡ 1
    → failed ≡ false → stalled ≡ false → TellsLine (transcript_of reader reader writer writer faults
    faults' (log_of_reader left left failed) (log_of_writer written written failed' stalled
    flushed) reported)
    (fault_line Memory)
    → IsOutcome words status (transcript_of reader reader writer writer faults faults'
    (log_of_reader left left failed) (log_of_writer written written failed' stalled flushed)
    reported)
without_memory words status reader writer faults faults' left written failed failed' stalled flushed
    reported one works moves line = record {
      at_most = omega arith;
      run = λ _. record {
        done = λ none. absurd (let bad : ⊥ = omega arith in bad);
        stopped = λ _. stopped_none left written;
        never_refused = omega arith;
      };
      threads = λ _. record {
        done = λ none. absurd (let bad : ⊥ = omega arith in bad);
        stopped = λ _. (
          Memory,
          (
            line,
            tells_none Memory (log_of_reader left left failed) written written refl
                (Keeps-refl written) refl,
          ),
        );
        never_refused = omega arith;
      };
      check = λ formula _. record {
        done = λ none. absurd (let bad : ⊥ = omega arith in bad);
        stopped = λ _. inl refl;
        refused = λ two. absurd (let bad : ⊥ = omega arith in bad);
      };
      usage = λ _ two. absurd (let bad : ⊥ = omega arith in bad);
      other = λ _. ((let some : 1 ≤ status = omega arith in some), refl);
      quiet = λ none. absurd (let bad : ⊥ = omega arith in bad);
      flushed = λ _ none. absurd (let bad : ⊥ = omega arith in bad);
      fault = λ _ _. record {
        fault = Memory;
        line = line;
        is = ((works, moves), never_began left written);
      };
      writes_nothing = λ _. refl;
      reads_nothing = λ _ _. refl;
    }
