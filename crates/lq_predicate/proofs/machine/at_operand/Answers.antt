use Rattle.std.proofs.Common.{◌∙◌}
use Rattle.lq_predicate.proofs.EndLemmas.{start_bars}
use Rattle.lq_predicate.proofs.MachineLemmas.{banged, name_read, never_full, opened}
use Rattle.lq_predicate.proofs.machine.at_operand.Goals as goal

pub returns-in_ok-attr-in-Word : goal.returns-in_ok-attr-in-Word
returns-in_ok-attr-in-Word g c = λ s h. rw c.in-Word.is
    (name_read g.B.Builder.named g.B.Builder.parts c.args.frames.now s c.in-Word.raw.now _ h
    c.in_ok-attr-in-Word.ensures)

pub returns-in_default-try_push : goal.returns-in_default-try_push
returns-in_default-try_push g c = λ s h. absurd
    (never_full g.B.Builder.named g.B.Builder.parts c.args.frames.now s h
    c.if-frames-eq0.false c.in_default-try_push.ensures.full)

pub returns-in-Ok : goal.returns-in-Ok
returns-in-Ok g c = λ s h. rw c.in-Opens.is
    (opened g.B.Builder.named g.B.Builder.parts c.args.frames.now s c.try_push.new.self
    c.replace-outer.new.dest h c.if-frames-eq0.false
    (rw c.replace-outer.ensures.value at c.in-Ok.ensures.ok)
    (c.replace-outer.ensures.after ∙ c.new_frame.ensures))

pub returns-else-frames-eq0-2 : goal.returns-else-frames-eq0-2
returns-else-frames-eq0-2 g c = λ s h. rw c.in-Bang.is
    (banged g.B.Builder.named g.B.Builder.parts c.args.frames.now s _ h
    c.if-frames-eq0-2.false c.saturating_add-frames.ensures)

pub returns-in_default : goal.returns-in_default
returns-in_default g c = λ s h. start_bars s c.args.token.now c.in_default.not-Word
    c.in_default.not-Opens c.in_default.not-Bang
