use Rattle.std.proofs.Common.{◌≡◌, ◌∙◌, ◌+◌, ◌++◌, [], ◌∷◌, Err, length, append-nil, arith, rules, drop, refl}
use Rattle.std.proofs.lemmas.List.{take_all}
use Rattle.lq_script_lines.specs.declared.run_fault.RunFault.TheVariants.{Memory}
use Rattle.lq_script_lines.proofs.CallLemmas.{before_part, no_writes, writes_then}
use Rattle.lq_script_lines.proofs.ResultLemmas.{neither, no_fault, no_other}
use Rattle.lq_script_lines.proofs.ProgressLemmas.{given_rest, halted_at, line_rest, more_taken, stands_fronts, stands_run}
use Rattle.lq_script_lines.proofs.input_pieces.take_piece.Goals as goal

pub returns-then-room-eq0 : goal.returns-then-room-eq0
returns-then-room-eq0 g c = record {
  taken = record {
    ok = tt;
    works = tt;
    err = λ began given s. stands_fronts (c.loop-at.invariant.stands began given s)
        (drop c.loop-at.at c.args.piece.now) (given_rest given c.args.piece.now c.loop-at.at);
    limit = λ _ began given s. let stood = c.loop-at.invariant.stands began given s in record {
      count = c.loop-at.at;
      follows = c.loop-at-test.true;
      stands = stood;
      passes = c.room-room.ensures.none c.if-room-eq0.true _ stood.come _;
    };
    memory = λ h. no_other h refl;
    memory_works = λ h. no_other h refl;
    not_read = λ h. no_other h refl;
    not_thread = λ h. no_other h refl;
    cause = λ h. no_other h refl;
  };
  calls = c.loop-at.invariant.calls;
}

pub loop-at-init : goal.loop-at-init
loop-at-init g c = record {
  within = omega arith;
  stands = λ began given s. rw append-nil s;
  works = (refl, refl);
  calls = no_writes _;
}

pub returns-in_err-keep : goal.returns-in_err-keep
returns-in_err-keep g c =
    let is : c.from_residual-in_err-keep.result ≡ Err Memory = search rules in record {
      taken = rw is (record {
        ok = tt;
        works = tt;
        err = λ began given s. stands_fronts (c.loop-at.invariant.stands began given s)
            (drop c.loop-at.at c.args.piece.now) (given_rest given c.args.piece.now c.loop-at.at);
        limit = λ h. no_other h refl;
        memory = λ _ began given s. halted_at given c.args.piece.now c.loop-at.at
            c.loop-at-test.true (c.loop-at.invariant.stands began given s);
        memory_works = λ _. c.loop-at.invariant.works;
        not_read = λ h. no_other h refl;
        not_thread = λ h. no_other h refl;
        cause = λ h. no_other h refl;
      });
      calls = rw is c.loop-at.invariant.calls;
    }

pub returns-in_err-end_line : goal.returns-in_err-end_line
returns-in_err-end_line g c =
    let is : c.from_residual.result ≡ Err c.in_err-end_line.field-0.0 = search rules in
    let says = c.in_err-end_line.ensures in
    let at = c.loop-at.at in
    let run = c.run_at-run.result.now in record {
      taken = rw is (record {
        ok = tt;
        works = tt;
        err = λ began given s. rw (line_rest given c.args.piece.now run at (at + length run + 1)
            (c.run_at-run.ensures.stops c.if-at-piece.true c.if-run-room.true))
            at (says.err (drop (at + length run + 1) c.args.piece.now) began _
            (c.loop-at.invariant.stands began given s));
        limit = λ h. neither h says.fault refl refl;
        memory = λ h began given s. rw (says.memory h).0 (rw (says.memory h).1
            (halted_at given c.args.piece.now at c.loop-at-test.true
            (c.loop-at.invariant.stands began given s)));
        memory_works = λ h. rw (says.memory h).0 c.loop-at.invariant.works;
        not_read = λ h. neither h says.fault refl refl;
        not_thread = λ h. neither h says.fault refl refl;
        cause = says.cause;
      });
      calls = rw is (before_part _ _ _ c.loop-at.invariant.calls
          (Err c.in_err-end_line.field-0.0) says.calls);
    }

pub loop-at-smaller : goal.loop-at-smaller
loop-at-smaller g c = let run = c.run_at-run.ensures in grind (arith, run.bound)

pub returns : goal.returns
returns g c = record {
  taken = record {
    ok = λ began given s.
        rw (take_all c.loop-at.at c.args.piece.now (omega (arith, c.loop-at-test.false)))
        at (c.loop-at.invariant.stands began given s);
    works = c.loop-at.invariant.works;
    err = tt;
    limit = no_fault;
    memory = no_fault;
    memory_works = no_fault;
    not_read = no_fault;
    not_thread = no_fault;
    cause = no_fault;
  };
  calls = c.loop-at.invariant.calls;
}

pub loop-at-preserved : goal.loop-at-preserved
loop-at-preserved g c = record {
  within = c.run_at-run.ensures.bound;
  stands = λ began given s.
      let stood = c.loop-at.invariant.stands began given s in
      rw (more_taken given _ c.run_at-run.result.now _ c.run_at-run.ensures.run)
      (stands_run stood c.run_at-run.result.now c.run_at-run.ensures.unbroken
      (c.in_ok-keep.ensures.come _ stood.come));
  works = c.loop-at.invariant.works;
  calls = c.loop-at.invariant.calls;
}

pub loop-at-preserved-then-run-room : goal.loop-at-preserved-then-run-room
loop-at-preserved-then-run-room g c = record {
  within = omega (arith, c.if-at-piece.true);
  stands = λ began given s.
      rw (more_taken given _ (c.run_at-run.result.now ++ 10 ∷ []) _
      (c.run_at-run.ensures.stops c.if-at-piece.true c.if-run-room.true))
      (c.in_ok-end_line.ensures.ok began _ (c.loop-at.invariant.stands began given s));
  works = (
    c.in_ok-end_line.ensures.works.0 ∙ c.loop-at.invariant.works.0,
    c.in_ok-end_line.ensures.works.1 ∙ c.loop-at.invariant.works.1,
  );
  calls = writes_then _ _ _ c.loop-at.invariant.calls c.in_ok-end_line.ensures.calls;
}
