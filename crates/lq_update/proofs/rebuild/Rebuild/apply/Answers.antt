use Rattle.std.proofs.Common.{◌≡◌, ◌∙◌, sym, ap, rules, Err}
use Rattle.std.specs.Prelude.{unwrap_or}
use Rattle.lq_value.specs.declared.refusal.Refusal.TheVariants.{NoMemory}
use Rattle.lq_update.proofs.FollowLemmas.{refusal-following}
use Rattle.lq_update.proofs.rebuild.Rebuild.apply.Goals as goal

pub returns-in_err-fold-clause-refused : goal.returns-in_err-fold-clause-refused
returns-in_err-fold-clause-refused c =
    let is : c.from_residual.result ≡ Err c.in_err-fold.field-0.0 = search rules in
    rw is (
      tt,
      c.in_err-fold.ensures.refused.1 ∙ ap (λ o. unwrap_or o NoMemory)
          (refusal-following _ c.args.self.now c.args.message.now c.self.view_is
          (sym c.if-not-is_followed_by.ensures)),
    )
