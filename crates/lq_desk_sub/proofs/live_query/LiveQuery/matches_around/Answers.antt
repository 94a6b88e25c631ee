use Rattle.std.proofs.Common.{◌≡◌, ap, false, refl, sym, ◌∙◌}
use Rattle.lq_predicate.specs.Query.{Query}
use Rattle.lq_volume.specs.Plan.{Plan}
use Rattle.lq_update.specs.Options.{no_values}
use Rattle.lq_update.specs.Updates.{step_of}
use Rattle.lq_update.specs.declared.matches.Matches.{Matches}
use Rattle.lq_desk_sub.proofs.PassingLemmas.{flip}
use Rattle.lq_desk_sub.proofs.live_query.LiveQuery.matches_around.Goals as goal
use Rattle.lq_desk_sub.proofs.live_query.LiveQuery.matches_around.Goals.{then-shows_nothing+else-not-flags, else-shows_nothing}

pub matches_once-matches-requires : goal.matches_once-matches-requires
matches_once-matches-requires c = record {
  quiet = λ seq.
      ap (λ (q : Query). step_of q (no_values false) c.args.planned.now.before
      c.args.planned.now.change seq) c.self.view_is
      ∙ c.shows_nothing.ensures (no_values false) seq c.if-shows_nothing.true refl;
}

pub returns-else-may_have_messages-clause-none : goal.returns-else-may_have_messages-clause-none
returns-else-may_have_messages-clause-none c seq =
    let m = c.if-shows_nothing.matches in
    let query : m.predicate.now ≡ c.args.self.now = elim c.if-shows_nothing.branch [
      | then-shows_nothing+else-not-flags w ↦
          ap (λ (m : Matches). m.predicate.now) w.matches-is
          ∙ (w.matches_once-matches.ensures.query ∙ c.self.view_is)
      | else-shows_nothing w ↦
          ap (λ (m : Matches). m.predicate.now) w.matches-is
          ∙ (w.matches_of-matches.ensures.query ∙ c.self.view_is)
    ] in
    let plan : m.planned.now ≡ c.args.planned.now = elim c.if-shows_nothing.branch [
      | then-shows_nothing+else-not-flags w ↦
          ap (λ (m : Matches). m.planned.now) w.matches-is ∙ w.matches_once-matches.ensures.plan
      | else-shows_nothing w ↦
          ap (λ (m : Matches). m.planned.now) w.matches-is ∙ w.matches_of-matches.ensures.plan
    ] in
    sym (ap (λ q. step_of q c.args.flags m.planned.now.before m.planned.now.change seq) query
    ∙ ap (λ (p : Plan). step_of c.args.self.now c.args.flags p.before p.change seq) plan)
    ∙ c.may_have_messages.ensures seq c.if-may_have_messages.false

pub returns-then-not-flags-clause-none : goal.returns-then-not-flags-clause-none
returns-then-not-flags-clause-none c seq =
    c.shows_nothing.ensures c.args.flags seq c.if-shows_nothing.true
    (flip c.args.flags.values c.if-not-flags.true)
