use Rattle.std.proofs.Common.{◌∙◌, ℕ, List, ap, refl, sym}
use Rattle.std.specs.Prelude.{Ok, Err}
use Rattle.lq_value.specs.declared.refusal.Refusal.TheVariants.{NotUtf8}
use Rattle.lq_predicate.specs.Stack.{attr_pushed, text_pushed}
use Rattle.lq_embed.proofs.CallLemmas.{if-not_utf8, if-utf8, puts-as}
use Rattle.lq_embed.proofs.pushes.put_on.Goals as goal

pub returns-in-Ok : goal.returns-in-Ok
returns-in-Ok c =
    let text = c.in-Ok.ensures.cases in
    rw c.in-Attr.is (puts-as _ _ _ (if-utf8 c.in-Attr.name.now _ (Err NotUtf8) text.1
    ∙ ap (λ (bytes : List ℕ). Ok (attr_pushed bytes c.args.stack.now)) (sym text.0))
    (c.push_attr.ensures.ok, c.push_attr.ensures.refused, c.push_attr.ensures.err))

pub returns-in-Err : goal.returns-in-Err
returns-in-Err c = rw c.in-Attr.is (puts-as _ _ _
    (if-not_utf8 c.in-Attr.name.now _ (Err NotUtf8) c.in-Err.ensures.cases.0) (refl, refl))

pub returns-in-Ok-from_utf8 : goal.returns-in-Ok-from_utf8
returns-in-Ok-from_utf8 c =
    let text = c.in-Ok-from_utf8.ensures.cases in
    rw c.in-Text.is (puts-as _ _ _ (if-utf8 c.in-Text.text.now _ (Err NotUtf8) text.1
    ∙ ap (λ (bytes : List ℕ). Ok (text_pushed bytes c.args.stack.now)) (sym text.0))
    (c.push_text.ensures.ok, c.push_text.ensures.refused, c.push_text.ensures.err))

pub returns-in-Err-from_utf8 : goal.returns-in-Err-from_utf8
returns-in-Err-from_utf8 c = rw c.in-Text.is (puts-as _ _ _
    (if-not_utf8 c.in-Text.text.now _ (Err NotUtf8) c.in-Err-from_utf8.ensures.cases.0)
    (refl, refl))
