use Rattle.std.proofs.Common.{sym, ◌∙◌, subst}
use Rattle.lq_predicate_formula.specs.TokenView.{token_of}
use Rattle.lq_predicate.specs.Building.{IsStepAt}
use Rattle.lq_predicate.proofs.EndLemmas.{complete_is, not_op, not_word, operand_is}
use Rattle.lq_predicate.proofs.MachineLemmas.{literal_read, op_read}
use Rattle.lq_predicate.proofs.machine.take.Goals as goal

pub returns-in-Is : goal.returns-in-Is
returns-in-Is g c = λ s h is. rw c.in-Is.is
    (op_read g.B.Builder.named g.B.Builder.parts s.expected c.args.frames.now s _ c.in-Is.op h
    (sym c.in-AfterAttr.is ∙ is))

pub returns-in_ok-complete-in-Word : goal.returns-in_ok-complete-in-Word
returns-in_ok-complete-in-Word g c = λ s h is. rw c.in-Word.is
    (literal_read g.B.Builder.named g.B.Builder.parts g.B.Builder.part _ s.expected
    c.args.frames.now c.complete.new.frames s _ c.in-AfterOp.op c.in-Word.raw.now _ h
    (sym c.in-AfterOp.is ∙ is) c.in_ok-part-in-Word.ensures c.in_ok-complete-in-Word.ensures)

pub returns-in-Operand : goal.returns-in-Operand
returns-in-Operand g c = λ s h is. subst (λ p. IsStepAt g.B.Builder.named g.B.Builder.parts p s
    (token_of c.args.token.now) c.at_operand.result c.at_operand.new.frames)
    (operand_is g.B.Builder.named s.expected (sym c.in-Operand.is ∙ is))
    (c.at_operand.ensures s h)

pub returns-in_default : goal.returns-in_default
returns-in_default g c = λ s h is. not_op g.B.Builder.named s.expected s c.in-AfterAttr.attr
    c.args.token.now c.in_default.not-Is (sym c.in-AfterAttr.is ∙ is)

pub returns-in_default-token : goal.returns-in_default-token
returns-in_default-token g c = λ s h is. not_word g.B.Builder.named s.expected s c.in-AfterOp.attr
    c.in-AfterOp.op c.args.token.now c.in_default-token.not-Word (sym c.in-AfterOp.is ∙ is)

pub returns-in-AfterOperand : goal.returns-in-AfterOperand
returns-in-AfterOperand g c = λ s h is. subst (λ p. IsStepAt g.B.Builder.named g.B.Builder.parts p
    s (token_of c.args.token.now) c.after_operand.result c.after_operand.new.frames)
    (complete_is g.B.Builder.named s.expected (sym c.in-AfterOperand.is ∙ is))
    (c.after_operand.ensures s h)
