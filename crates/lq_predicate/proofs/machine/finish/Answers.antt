use Rattle.std.proofs.Common.{Some, sym, ap, ◌∙◌, subst, ◌≡◌}
use Rattle.std.specs.Prelude.{option_map}
use Rattle.std.proofs.lemmas.Result.{IfOk-from_err}
use Rattle.lq_predicate_formula.specs.Machine.{said_by, whole_at}
use Rattle.lq_predicate.proofs.EndLemmas.{complete_is, nested, outermost, unfinished}
use Rattle.lq_predicate.proofs.machine.finish.Goals as goal

pub returns-in_default : goal.returns-in_default
returns-in_default g c = λ s h is. ap (option_map g.B.Builder.part)
    (sym (unfinished g.B.Builder.named s.expected c.args.expected s.below s.top
    c.in_default.not-AfterOperand is))

pub returns-then-not-is_empty : goal.returns-then-not-is_empty
returns-then-not-is_empty g c = λ s h is. ap (option_map g.B.Builder.part)
    (sym (nested g.B.Builder.parts s.expected c.args.frames.now.below.items s.below s.top h.below
    (sym c.is_empty.ensures ∙ c.if-not-is_empty.true)))

pub returns-in_err-part : goal.returns-in_err-part
returns-in_err-part g c = λ s h is.
    IfOk-from_err c.from_residual.result _ c.from_residual.ensures.0

pub returns : goal.returns
returns g c = λ s h is.
    let whole = outermost g.B.Builder.parts c.args.frames.now.below.items s.below s.top h.below
    (sym c.is_empty.ensures ∙ c.if-not-is_empty.false) in
    let made = c.in_ok-part.ensures s.top (c.replace.ensures.value ∙ h.top) in
    ap Some made ∙ ap (option_map g.B.Builder.part) (sym (subst
    (λ p. whole_at p s.below s.top ≡ Some (said_by s.top))
    (complete_is g.B.Builder.named s.expected (sym c.in-AfterOperand.is ∙ is)) whole))
