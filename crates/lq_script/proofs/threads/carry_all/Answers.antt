-- The lines of each read are carried out. At the end all that waited is written, but for a fault.
use Rattle.std.proofs.Common.{rules, ◌++◌, ◌∙◌, [], Ok, Err, refl, sym, subst}
use Rattle.std.proofs.KnownBytes.{Consumes-nil, Consumes-trans}
use Rattle.lq_script_lines.specs.Lines.{ended_lines}
use Rattle.lq_script.specs.Asked.{asked_by_all, asked_in}
use Rattle.lq_script.specs.Input.{ReadsOn, StopsReading}
use Rattle.lq_script.proofs.ProgressLemmas.{carries_as, carries_none, carries_then, tells_closed, tells_fault, tells_flush}
use Rattle.lq_script.proofs.ReadingLemmas.{goes_on, hands_asked, read_after, read_all, read_some}
use Rattle.lq_script.proofs.threads.carry_all.Goals as goal

pub loop-init : goal.loop-init
loop-init g c = record {
  next = search rules;
  finite = search rules;
  same = refl;
  empty = c.requires.empty;
  no_reads = c.requires.no_reads;
  given = [];
  consumed = Consumes-nil _;
  come = c.new-lines.ensures;
  carried = carries_none _ tt;
}

pub returns-in-Err-clause-made : goal.returns-in-Err-clause-made
returns-in-Err-clause-made g c =
    let i = c.loop.invariant in
    let text = c.given.result.now in
    let left' = g.R.Source.left c.loop.reader in
    let left'' = g.R.Source.left c.read-goes.new.reader in
    let failed = g.R.Source.failed c.read-goes.new.reader in
    let reads = subst (λ t. ReadsOn c.read-goes.result i.given left' left'' failed
    c.read-goes.new.self.intake t) (sym c.given.ensures)
    (c.read-goes.ensures.reads i.given i.come) in
    tells_fault c.in-Err.fault c.close.result _
    (asked_in (ended_lines i.given) ++ asked_by_all text) _ _ _ c.requires.empty c.requires.no_reads
    (carries_then (asked_in (ended_lines i.given)) (asked_by_all text) (Err c.in-Err.fault) _ _ _ tt
    i.carried c.in-Err.ensures.carried) c.close.ensures.closed
    (read_some i.given (g.R.Source.left c.args.reader.now) left' left'' i.consumed failed text
    c.read-goes.result c.read-goes.new.self.intake reads)

pub loop-preserved : goal.loop-preserved
loop-preserved g c =
    let i = c.loop.invariant in
    let text = c.given.result.now in
    let left = g.R.Source.left c.args.reader.now in
    let left' = g.R.Source.left c.loop.reader in
    let left'' = g.R.Source.left c.read-goes.new.reader in
    let failed = g.R.Source.failed c.read-goes.new.reader in
    let goes = goes_on c.in-Ok-true.field-0 i.given left' left'' failed c.read-goes.new.self.intake
    c.read-goes.new.self.given.items text (sym c.given.ensures) c.in-Ok-true.field-0-test
    (c.in-Ok-true.ensures.reads i.given i.come) in
    record {
      next = search rules;
      finite = search rules;
      same = c.answer_lines.ensures.same ∙ i.same;
      empty = c.in_default.ensures.empty;
      no_reads = c.in_default.ensures.no_reads;
      given = i.given ++ goes.piece;
      consumed = Consumes-trans left left' left'' i.given goes.piece i.consumed goes.consumed;
      come = goes.come;
      carried = carries_as (asked_in (ended_lines (i.given ++ goes.piece)))
          (asked_in (ended_lines i.given) ++ asked_by_all text) (Ok tt) (Ok c.in_default.field-0) _
          _ (sym (hands_asked goes.hands)) refl
          (carries_then (asked_in (ended_lines i.given)) (asked_by_all text)
          (Ok c.in_default.field-0) _ _ _ tt i.carried c.in_default.ensures.carried);
    }

pub returns-in-Ok-false-clause-made : goal.returns-in-Ok-false-clause-made
returns-in-Ok-false-clause-made g c =
    let i = c.loop.invariant in
    let text = c.given.result.now in
    let left = g.R.Source.left c.args.reader.now in
    let left' = g.R.Source.left c.loop.reader in
    let left'' = g.R.Source.left c.read-goes.new.reader in
    let failed = g.R.Source.failed c.read-goes.new.reader in
    tells_flush c.flush.result _ (asked_in (ended_lines i.given) ++ asked_by_all text) _ _
    c.in_default.field-0 _ c.requires.empty c.requires.no_reads c.in_default.ensures.empty
    c.in_default.ensures.no_reads
    (carries_then (asked_in (ended_lines i.given)) (asked_by_all text) (Ok c.in_default.field-0) _ _
    _ tt i.carried c.in_default.ensures.carried) c.flush.ensures.bytes c.flush.ensures.fault
    (read_all i.given left left' left'' i.consumed failed text c.in-Ok-false.field-0
    c.read-goes.new.self.intake c.read-goes.new.self.given.items (sym c.given.ensures)
    c.in-Ok-false.field-0-test (c.in-Ok-false.ensures.reads i.given i.come))

pub returns-in-Err-goes-clause-made : goal.returns-in-Err-goes-clause-made
returns-in-Err-goes-clause-made g c =
    let i = c.loop.invariant in
    let text = c.given.result.now in
    let left = g.R.Source.left c.args.reader.now in
    let left' = g.R.Source.left c.loop.reader in
    let left'' = g.R.Source.left c.read-goes.new.reader in
    let failed = g.R.Source.failed c.read-goes.new.reader in
    let stops = subst (λ t. StopsReading c.in-Err-goes.fault i.given left' left'' failed t)
    (sym c.given.ensures) (c.in-Err-goes.ensures.reads i.given i.come) in
    tells_closed c.in-Err-goes.fault c.close-in-Err-goes.result _
    (asked_in (ended_lines i.given) ++ asked_by_all text) _ _ c.in_default.field-0 _
    c.requires.empty c.requires.no_reads c.in_default.ensures.empty c.in_default.ensures.no_reads
    (carries_then (asked_in (ended_lines i.given)) (asked_by_all text) (Ok c.in_default.field-0) _ _
    _ tt i.carried c.in_default.ensures.carried) c.close-in-Err-goes.ensures.closed
    (read_after i.given left left' left'' i.consumed failed text c.in-Err-goes.fault stops)
