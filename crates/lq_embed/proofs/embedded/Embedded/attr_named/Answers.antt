use Rattle.std.proofs.Common.{◌≡◌, ◌∙◌, List, ℕ, None, subst, refl, inl}
use Rattle.std.specs.Prelude.{unwrap_or}
use Rattle.lq_value.specs.declared.refusal.Refusal.TheVariants.{NoMemory, NotUtf8}
use Rattle.lq_embed.specs.Attrs.{attr_out, attr_with_name}
use Rattle.lq_embed.specs.SessionState.{holds, volume_in}
use Rattle.lq_embed.specs.Status.{outcome_status}
use Rattle.lq_embed.proofs.CallLemmas.{if-not_utf8}
use Rattle.lq_embed.proofs.AttrLemmas.{name_fault, named-read, shows-as, shows-barred, shows-unread}
use Rattle.lq_embed.proofs.embedded.Embedded.attr_named.Goals as goal

pub returns-in_default : goal.returns-in_default
returns-in_default c = inl (shows-barred NotUtf8
    (if-not_utf8 c.args.attr.now _ _ c.in_default.ensures.cases.0) c.status.ensures)

pub returns-in-Err : goal.returns-in-Err
returns-in-Err c =
    let text = c.in-Ok.ensures.cases in
    shows-unread c.args.node c.args.attr.now c.in-Err.refusal text.1
    (subst (λ (t : List ℕ). c.in-Err.refusal ≡ unwrap_or (name_fault t) NoMemory) text.0
    c.in-Err.ensures.refused.1) c.status-in-Err.ensures

pub returns : goal.returns
returns c =
    let text = c.in-Ok.ensures.cases in
    let name = c.in-Ok-read.ensures.value ∙ text.0 in
    let s = holds c.args.self.now in
    inl (shows-as (named-read s c.args.node c.args.attr.now text.1
    (subst (λ (t : List ℕ). name_fault t ≡ None) text.0 c.in-Ok-read.ensures.refused.0)) (record {
      code = subst (λ (t : List ℕ). c.put_named.result ≡
          outcome_status (attr_with_name (volume_in s) c.args.node t)) name
          c.put_named.ensures.status;
      out = subst (λ (t : List ℕ). c.put_named.new.out ≡
          attr_out (attr_with_name (volume_in s) c.args.node t) c.args.out.now) name
          c.put_named.ensures.out;
      stays = refl;
    }))
