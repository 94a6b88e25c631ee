-- A change makes at most three messages more.
use Rattle.std.proofs.Common.{◌≡◌, ◌+◌, ◌≤◌, length, sym, ap, ◌∙◌, subst}
use Rattle.lq_update.specs.Updates.{step_of}
use Rattle.lq_desk_sub.specs.Held.{Prepared, prepared_for, committed}
use Rattle.lq_core_tests.proofs.SubLemmas.{sent_after}
use Rattle.lq_core_tests.proofs.subs.tell.Goals as goal

pub returns-then-is_live-clause-few : goal.returns-then-is_live-clause-few
returns-then-is_live-clause-few c =
    let p = c.args.sub.now in
    let s = c.args.volume.now in
    let change = c.in_ok-create.create in
    let told : c.commit.new.self ≡ committed (prepared_for s change p) =
    c.commit.ensures ∙ ap committed c.in_ok-ready.ensures.ok in
    let few : length (step_of p.held.query p.held.flags s change (p.held.sent + 1)) ≤ 3 =
    c.steps_are_few.ensures p.held.query p.held.flags s change (p.held.sent + 1)
    c.changes.ensures.volume c.in_ok-create.ensures in
    subst (λ (q : Prepared). q.held.sent ≤ p.held.sent + 3) (sym told)
    (sent_after p.held (step_of p.held.query p.held.flags s change (p.held.sent + 1)) s.number few)
