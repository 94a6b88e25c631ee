use Rattle.std.proofs.Common.{◌∙◌, ap, sym, length, nat_lt}
use Rattle.lq_desk_sub.specs.Held.{Prepared}
use Rattle.lq_desk_sub.proofs.sub.Sub.ready_planned.Goals as goal

pub returns-else-not-told-clause-any : goal.returns-else-not-told-clause-any
returns-else-not-told-clause-any c =
    let readied = c.in_ok-told.ensures.ok in
    readied.any ∙ rw c.requires.live
    (ap (λ (p : Prepared). nat_lt 0 (length p.ready)) (sym (readied.ready c.if-not-told.false)))
