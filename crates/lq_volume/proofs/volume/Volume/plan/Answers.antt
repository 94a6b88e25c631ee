use Rattle.std.proofs.Common.{◌≡◌, [], ◌∷◌, rules, Err}
use Rattle.lq_value.specs.declared.refusal.Refusal.TheVariants.{Exhausted}
use Rattle.lq_volume.specs.Change.{is_full, own_tests}
use Rattle.lq_volume.proofs.Rows.{earlier_decides}
use Rattle.lq_volume.proofs.volume.Volume.plan.Goals as goal

pub returns-in_err-found-clause-err : goal.returns-in_err-found-clause-err
returns-in_err-found-clause-err c =
    let s = c.args.self.now in
    let is : c.from_residual.result ≡ Err c.in_err-found.field-0.0 = search rules in
    rw is (earlier_decides (own_tests s c.args.change.now) ((is_full s, Exhausted) ∷ [])
    c.in_err-found.field-0.0 c.in_err-found.ensures.err)
