use Rattle.std.proofs.Common.{◌≡◌, ◌+◌, [], refl, sym}
use Rattle.std.proofs.lemmas.Bool.{and_right}
use Rattle.lq_update.specs.Updates.{step_of}
use Rattle.lq_desk_sub.proofs.sub.Sub.prepare_if_any.Goals as goal

pub returns-in_default-clause-ok : goal.returns-in_default-clause-ok
returns-in_default-clause-ok c =
    let sub = c.self.inside in
    let s = c.args.planned.now.before in
    let none : step_of sub.query sub.flags s c.args.planned.now.change (sub.sent + 1) ≡ [] =
    c.in_default.ensures.none (sub.sent + 1) in
    record {
      any = rw (← c.self.view_is, none) (sym (and_right _ _ refl));
      ready = λ is. absurd (let no : ⊥ = cc in no);
      held = refl;
      lent = refl;
    }
