use Rattle.std.proofs.Common.{ap, ◌∙◌, chars, string_bytes}
use Rattle.std.proofs.lemmas.Str.{IsUtf8-string_bytes, chars-nil}
use Rattle.lq_value_pattern.specs.Pattern.{plain_elements}
use Rattle.lq_value_pattern.proofs.PatternLemmas.{text_more, text_none}
use Rattle.lq_value_pattern.proofs.plain.plain_text.Goals as goal

pub loop-element-init : goal.loop-element-init
loop-element-init c = ap plain_elements (ap chars c.new-text.ensures.bytes ∙ chars-nil)

pub loop-element-preserved : goal.loop-element-preserved
loop-element-preserved c =
    text_more c.args.elements.now c.loop-element.element-index c.element-item.result c.in-Plain.c _
    _ c.loop-element-test.true c.element-item.is
    c.in-Plain.is (IsUtf8-string_bytes c.loop-element.text)
    (IsUtf8-string_bytes c.push.new.self) c.in_ok-push.ensures.bytes c.loop-element.invariant

pub returns-in_default : goal.returns-in_default
returns-in_default c =
    text_none c.args.elements.now c.loop-element.element-index c.element-item.result
    (chars (string_bytes c.loop-element.text))
    c.loop-element-test.true c.element-item.is c.in_default.not-Plain c.loop-element.invariant
