use Rattle.std.proofs.Common.{◌++◌, ◌∷◌, [], ap, sym, ◌∙◌}
use Rattle.std.proofs.lemmas.Result.{err_from_is_err_and}
use Rattle.lq_predicate_formula.specs.Query.{both_of}
use Rattle.lq_predicate.proofs.EndLemmas.{end_bars}
use Rattle.lq_predicate.proofs.MachineLemmas.{ands_read, closed, ors_read}
use Rattle.lq_predicate.proofs.machine.after_operand.Goals as goal

pub returns-in-Ands : goal.returns-in-Ands
returns-in-Ands g c = λ s h. rw c.in-Ands.is
    (ands_read g.B.Builder.named g.B.Builder.parts c.args.frames.now s h)

pub returns-in_ok-push-in-Ors : goal.returns-in_ok-push-in-Ors
returns-in_ok-push-in-Ors g c = λ s h. rw c.in-Ors.is
    (ors_read g.B.Builder.named g.B.Builder.parts c.args.frames.now s _ _ h
    (c.in_ok-push-in-Ors.ensures s.top.or_parts (both_of s.top.and_parts)
    (ap (λ t. t.or_parts) h.top) (c.in_ok-part-in-Ors.ensures s.top.and_parts
    (c.replace-and_parts.ensures.value ∙ ap (λ t. t.and_parts) h.top)))
    (c.replace-and_parts.ensures.after ∙ c.no_parts.ensures))

pub returns-in_ok-complete-in-Closes : goal.returns-in_ok-complete-in-Closes
returns-in_ok-complete-in-Closes g c = λ s h. rw c.in-Closes.is
    (closed g.B.Builder.named g.B.Builder.parts g.B.Builder.part _ c.args.frames.now _ s
    c.pop.new.self c.replace-inner.new.dest _ _ h
    (c.in-Some.ensures.items
    ∙ ap (λ f. c.pop.new.self.items ++ f ∷ []) (sym c.replace-inner.ensures.after))
    (c.in_ok-part-in-Closes.ensures s.top (c.replace-inner.ensures.value ∙ h.top))
    c.saturating_add-frames.ensures c.in_ok-complete-in-Closes.ensures)

pub returns-in_default : goal.returns-in_default
returns-in_default g c = λ s h. end_bars s c.args.token.now c.in_default.not-Ands
    c.in_default.not-Ors c.in_default.not-Closes

pub returns-in_err-part-in-Ors : goal.returns-in_err-part-in-Ors
returns-in_err-part-in-Ors g c = λ s h.
    let p = err_from_is_err_and c.from_residual.result c.from_residual.ensures.1 in
    rw (p.1, p.2) tt

pub returns-in_err-push-in-Ors : goal.returns-in_err-push-in-Ors
returns-in_err-push-in-Ors g c = λ s h.
    let r = c.from_residual-in_err-push-in-Ors in
    let p = err_from_is_err_and r.result r.ensures.1 in
    rw (p.1, p.2) tt

pub returns-in_err-part-in-Closes : goal.returns-in_err-part-in-Closes
returns-in_err-part-in-Closes g c = λ s h.
    let r = c.from_residual-in_err-part-in-Closes in
    let p = err_from_is_err_and r.result r.ensures.1 in
    rw (p.1, p.2) tt

pub returns-in_err-complete-in-Closes : goal.returns-in_err-complete-in-Closes
returns-in_err-complete-in-Closes g c = λ s h.
    let r = c.from_residual-in_err-complete-in-Closes in
    let p = err_from_is_err_and r.result r.ensures.1 in
    rw (p.1, p.2) tt
