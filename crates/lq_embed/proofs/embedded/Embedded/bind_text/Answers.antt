use Rattle.std.proofs.Common.{◌<◌, ◌∙◌, ℕ, subst}
use Rattle.lq_embed.specs.Bound.{bound_text}
use Rattle.lq_embed.specs.SessionState.{holds}
use Rattle.lq_embed.proofs.ValueLemmas.{adds-not_utf8, adds-refused, binds-in, binds-text}
use Rattle.lq_embed.proofs.embedded.Embedded.bind_text.Goals as goal

pub returns-in_default : goal.returns-in_default
returns-in_default c =
    binds-in (holds c.args.self.now) (holds c.args.self.now) (bound_text c.args.text.now)
    c.status.result (subst (λ (n : ℕ). n < 256) (c.len.ensures ∙ c.args.self.now.bound.ok.0)
    c.if-len-ge-MAX_VALUES.false)
    (adds-not_utf8 (holds c.args.self.now) c.args.text.now c.status.result
    c.in_default.ensures.cases.0 c.status.ensures)

pub returns-in-Ok-text : goal.returns-in-Ok-text
returns-in-Ok-text c =
    let text = c.in-Ok.ensures.cases in
    binds-text (holds c.args.self.now) (holds c.bind_value.new.self) c.args.text.now
    c.in-Ok.text.now c.in-Ok-text.value c.bind_value.result text.1 text.0
    c.in-Ok-text.ensures.refused.0 c.in-Ok-text.ensures.value c.bind_value.ensures

pub returns-in-Err : goal.returns-in-Err
returns-in-Err c =
    let text = c.in-Ok.ensures.cases in
    binds-in (holds c.args.self.now) (holds c.args.self.now) (bound_text c.args.text.now)
    c.status-in-Err.result (subst (λ (n : ℕ). n < 256)
    (c.len.ensures ∙ c.args.self.now.bound.ok.0) c.if-len-ge-MAX_VALUES.false)
    (adds-refused (holds c.args.self.now) c.args.text.now c.in-Ok.text.now c.in-Err.refusal
    c.status-in-Err.result text.1 text.0 c.in-Err.ensures.refused.1 c.status-in-Err.ensures)
