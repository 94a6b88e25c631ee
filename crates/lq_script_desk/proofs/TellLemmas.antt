-- What a script tells its readers.
use Rattle.std.proofs.Common.{◌≡◌, ℕ, List, ◌∷◌, ◌++◌, refl, sym, ap, ◌∙◌, Some, Result, Ok, Err}
use Rattle.lq_update.specs.Laws.{FoldingsFollow, RebuildsTakeAll}
use Rattle.lq_desk_world.specs.Laws.{RunsTellReaders}
use Rattle.lq_script_lines.specs.Lines.{line_of}
use Rattle.lq_script_lines.specs.Outcome.{IsRunOutcome, ReaderLog, WriterLog}
use Rattle.lq_script_lines.specs.declared.run_fault.RunFault.{RunFault}
use Rattle.lq_script_request.specs.declared.request.Request.TheVariants as request
use Rattle.lq_script_request.specs.declared.request.Look.TheVariants as look
use Rattle.lq_script_desk.specs.Script.{out_of, script_session, script_world, world_rules}
use Rattle.lq_script_desk.specs.History.{IsRebuilt, ScriptsTellReaders, TellsReaders, answers_of, events_of, request_of, replies_of, session_after, world_after}
use Rattle.lq_script_desk.proofs.HistoryLemmas.{line-reply, replied, reply-place, run-answers}
use Rattle.lq_script_desk.proofs.FoldLemmas.{script-folds}
use Rattle.lq_script_desk.proofs.TakenLemmas.{ReadsKeepFolds, taken-kept}

module _ (law : RunsTellReaders) (rebuilds : RebuildsTakeAll) (follow : FoldingsFollow)
    (keep : ReadsKeepFolds) where
  -- the reply to a line that asks for a slot's result
  rebuilt-reply : (lines before after : List (List ℕ)) (bytes : List ℕ) (slot : ℕ)
      → lines ≡ before ++ bytes ∷ after
      → request_of (line_of bytes) ≡ Some (request.Look (look.Rebuilt slot))
      → IsRebuilt lines before slot
  rebuilt-reply lines before after bytes slot is asks =
      let text = reply-place lines before after bytes is in record {
        reply = (
          text.0,
          sym (text.1 ∙ ap (λ own. (replies_of before ++ own) ++ text.0)
              (line-reply (session_after before) (line_of bytes)
              (request.Look (look.Rebuilt slot)) asks)),
        );
        taken = taken-kept keep before slot;
        fold = script-folds law rebuilds follow before slot;
      }

  -- all that is true of a script's lines
  pub script : ScriptsTellReaders
  script lines = record {
    run = run-answers script_world (events_of lines);
    readers = law script_world (world_after lines) (events_of lines) (answers_of lines)
        (run-answers script_world (events_of lines));
    replies = replied lines;
    results = rebuilt-reply lines;
    kept = taken-kept keep lines;
    folds = script-folds law rebuilds follow lines;
  }

-- a run over a script tells its readers what the script tells them
pub run-tells : ScriptsTellReaders → (result : Result (Unit {0}) RunFault) (r : ReaderLog)
    (w : WriterLog) → IsRunOutcome world_rules script_session result r w → TellsReaders result r w
run-tells law (Ok done) r w o = record {
  given = o.ok.given;
  text = out_of o.ok.given;
  consumed = o.ok.consumed;
  appended = o.ok.appended;
  ok = refl;
  err = tt;
  lines = λ lines rest is. law lines;
}
run-tells law (Err fault) r w o = record {
  given = o.err.given;
  text = o.err.text;
  consumed = o.err.consumed;
  appended = o.err.appended;
  ok = tt;
  err = o.err.front;
  lines = λ lines rest is. law lines;
}
