use Rattle.std.proofs.Common.{refl, sym, ◌∙◌, rules, arith, Err, ◌≡◌, [], inl}
use Rattle.std.proofs.KnownBytes.{Consumes-kept, Consumes-nil, Consumes-trans}
use Rattle.std.proofs.lemmas.Result.{on_err_weaker, on_ok_weaker}
use Rattle.lq_script_lines.specs.declared.run_fault.RunFault.TheVariants.{Memory, Write}
use Rattle.lq_script_lines.proofs.CallLemmas.{before_end, no_writes, writes_before, writes_then}
use Rattle.lq_script_lines.proofs.ResultLemmas.{no_other}
use Rattle.lq_script_lines.proofs.ProgressLemmas.{fronts_all, fronts_handed, stands_handed, stands_none, stands_stops}
use Rattle.lq_script_lines.proofs.RunLemmas.{end_outcome, less_left, read_none, read_outcome, run_ended, run_halted, run_passed, run_stopped, write_outcome}
use Rattle.lq_script_lines.proofs.script_run.run_lines.Goals as goal

pub loop-out-init : goal.loop-out-init
loop-out-init g c = record {
  given = [];
  consumed = Consumes-nil _;
  stands = stands_none c.new-intake.ensures c.new-out.ensures.items;
  reader_works = c.requires.reader_works;
  writer_works = c.requires.writer_works;
  writer_moves = c.requires.writer_moves;
  calls = no_writes _;
}

-- a read, where each reply is written
pub receive-requires : goal.receive-requires
receive-requires g c =
    let i = c.loop-out.invariant in
    let none = c.write_replies.ensures.empty in
    let stood = stands_handed i.stands c.in_ok-write_replies.ensures.ok none in record {
      waits = c.requires.waits _ c.write_replies.new.writer (run_ended stood i.consumed none);
    }

-- a fault of the writer before a read
pub returns-in_err-write_replies : goal.returns-in_err-write_replies
returns-in_err-write_replies g c =
    let is : c.from_residual.result ≡ Err Write = search rules in
    let i = c.loop-out.invariant in
    let says = c.in_err-write_replies.ensures in
    let stopped = run_stopped i.consumed
    (fronts_handed (stands_stops i.stands) says.err) in record {
      outcome = rw is (write_outcome stopped says.cause);
      begun = λ h. no_other (sym is ∙ h) refl;
      calls = rw is (inl (says.ends.0, writes_before _ _ _ i.calls _ says.ends.1));
    }

-- a fault of the writer after a read fault
pub returns-in_err-write_and_flush : goal.returns-in_err-write_and_flush
returns-in_err-write_and_flush g c =
    let is : c.from_residual-in_err-write_and_flush.result ≡ Err Write = search rules in
    let i = c.loop-out.invariant in
    let says = c.in_err-write_and_flush.ensures in
    let stood = stands_handed i.stands c.in_ok-write_replies.ensures.ok
    c.write_replies.ensures.empty in
    let stopped = run_stopped (Consumes-kept _ _ _ _ i.consumed c.in_default.ensures.bytes)
    (fronts_handed (stands_stops stood) says.err) in record {
      outcome = rw is (write_outcome stopped says.cause);
      begun = λ h. no_other (sym is ∙ h) refl;
      calls = rw is (inl (
        says.ends.0,
        writes_before _ _ _ (writes_then _ _ _ i.calls c.in_ok-write_replies.ensures.writes)
            _ says.ends.1,
      ));
    }

-- a read fault
pub returns-in_default : goal.returns-in_default
returns-in_default g c =
    let i = c.loop-out.invariant in
    let stood = stands_handed i.stands c.in_ok-write_replies.ensures.ok
    c.write_replies.ensures.empty in
    let read = Consumes-kept _ _ _ _ i.consumed c.in_default.ensures.bytes in
    let says = c.in_ok-write_and_flush.ensures in
    let none = c.write_and_flush.ensures.empty in
    let stopped = run_stopped read (fronts_all (stands_stops stood) says.ok) in
    let ended = run_ended (stands_handed stood says.ok none) read none in record {
      outcome = read_outcome stopped ended says.flushed c.in_default.ensures.fails;
      begun = λ h. no_other h refl;
      calls = (
        says.flushes.0,
        writes_before _ _ _ (writes_then _ _ _ i.calls c.in_ok-write_replies.ensures.writes)
            _ says.flushes.1,
      );
    }

-- the end of the input
pub returns-then-count-eq0 : goal.returns-then-count-eq0
returns-then-count-eq0 g c =
    let i = c.loop-out.invariant in
    let wrote = c.in_ok-write_replies.ensures in
    let stood = stands_handed i.stands wrote.ok c.write_replies.ensures.empty in
    let bytes = c.in-Ok.ensures.bytes in
    let read =
    read_none _ _ _ i.given _ c.in-Ok.count c.if-count-eq0.true i.consumed bytes.0 in
    let says = c.finish.ensures in
    let r = c.finish.result in
    let halted = λ (h : r ≡ Err Memory). run_halted read (says.memory h _ i.given stood) in record {
      outcome = end_outcome (on_ok_weaker r (λ all. record {
        given = i.given;
        consumed = read;
        at_end = bytes.1 c.if-count-eq0.true (omega arith);
        within = stood.come.within;
        appended = all _ i.given stood;
      }) says.ok) (on_err_weaker r (λ part. run_stopped read (part _ i.given stood)) says.err)
          halted (c.in-Ok.ensures.works ∙ i.reader_works) (on_ok_weaker r (λ same. (
            same.0 ∙ wrote.works.0 ∙ i.writer_works,
            same.1 ∙ wrote.works.1 ∙ i.writer_moves,
          )) says.works) (λ h. says.memory_works h ∙ wrote.works.1 ∙ i.writer_moves) says.fault
          says.cause says.flushed says.memory_flushed;
      begun = halted;
      calls = before_end _ _ _ (writes_then _ _ _ i.calls wrote.writes) r says.calls;
    }

pub loop-out-smaller : goal.loop-out-smaller
loop-out-smaller g c =
    let i = c.loop-out.invariant in
    let more = c.in_ok-take_block.ensures.ok _ i.given
    (stands_handed i.stands c.in_ok-write_replies.ensures.ok c.write_replies.ensures.empty) in
    less_left i.given c.in-Ok.count _ c.if-count-eq0.false c.in-Ok.ensures.bound
    i.stands.come more.come

pub loop-out-preserved : goal.loop-out-preserved
loop-out-preserved g c =
    let i = c.loop-out.invariant in
    let wrote = c.in_ok-write_replies.ensures in
    let took = c.in_ok-take_block.ensures in record {
      given = _;
      consumed = Consumes-trans _ _ _ i.given _ i.consumed c.in-Ok.ensures.bytes.0;
      stands = took.ok _ i.given (stands_handed i.stands wrote.ok c.write_replies.ensures.empty);
      reader_works = c.in-Ok.ensures.works ∙ i.reader_works;
      writer_works = took.works.0 ∙ wrote.works.0 ∙ i.writer_works;
      writer_moves = took.works.1 ∙ wrote.works.1 ∙ i.writer_moves;
      calls = writes_then _ _ _ (writes_then _ _ _ i.calls wrote.writes) took.calls;
    }

-- a fault of a piece
pub returns-in_err-take_block : goal.returns-in_err-take_block
returns-in_err-take_block g c =
    let is : c.from_residual-in_err-take_block.result ≡ Err c.in_err-take_block.field-0.0 =
    search rules in
    let says = c.in_err-take_block.ensures in
    let i = c.loop-out.invariant in
    let wrote = c.in_ok-write_replies.ensures in
    let stood = stands_handed i.stands wrote.ok c.write_replies.ensures.empty in
    let read = Consumes-trans _ _ _ i.given _ i.consumed c.in-Ok.ensures.bytes.0 in record {
      outcome = rw is (record {
        ok = tt;
        flushed = tt;
        works = tt;
        err = run_stopped read (says.err _ i.given stood);
        flush = says.flushed;
        read = λ h. absurd (says.not_read h);
        limit = λ h. run_passed read (says.limit h _ i.given stood);
        memory = λ h. inl (run_halted read (says.memory h _ i.given stood));
        memory_works = λ h. (
          c.in-Ok.ensures.works ∙ i.reader_works,
          says.memory_works h ∙ wrote.works.1 ∙ i.writer_moves,
        );
        read_fails = λ h. absurd (says.not_read h);
        write_fails = says.cause;
        no_thread = says.not_thread;
      });
      begun = λ h. run_halted read (says.memory (sym is ∙ h) _ i.given stood);
      calls = rw is (before_end _ _ _ (writes_then _ _ _ i.calls wrote.writes)
          (Err c.in_err-take_block.field-0.0) says.calls_err);
    }
