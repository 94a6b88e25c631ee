-- Each of the four steps keeps the rule.
use Rattle.std.proofs.Common.{◌≡◌, ap, ◌∙◌, subst}
use Rattle.lq_port.specs.Port.{putter, taker, together, Totals}
use Rattle.lq_port.specs.End.{known_of}
use Rattle.lq_port.proofs.PortLemmas.{leaves, merges, parts, shares, totals}
use Rattle.lq_port.proofs.channel.meet.Goals as goal

pub another-other-requires-clause-rule : goal.another-other-requires-clause-rule
another-other-requires-clause-rule g c =
    leaves g.T.Follows.follows _ _ c.requires.roles.1.1 c.requires.roles.1.0

pub absorb-requires-clause-rule : goal.absorb-requires-clause-rule
absorb-requires-clause-rule g c =
    merges g.T.Follows.follows _ _ _ _ g.T.Follows.no_floor c.requires.roles.0.0
    (ap (λ v. v.takes) c.another-other.ensures.rule.1 ∙ c.requires.roles.1.1)

pub learn_as-requires-clause-rule : goal.learn_as-requires-clause-rule
learn_as-requires-clause-rule g c =
    let e = c.absorb.ensures.rule in
    totals g.T.Follows.follows _ _ (ap (λ v. v.puts) e) (ap (λ v. v.takes) e)

pub another-requires-clause-rule : goal.another-requires-clause-rule
another-requires-clause-rule g c =
    let e = c.learn_as.ensures.channel.2 ∙ c.absorb.ensures.rule in
    parts g.T.Follows.follows _ _ (ap (λ v. v.puts) e) (ap (λ v. v.takes) e)

pub another-other-requires-clause-channel : goal.another-other-requires-clause-channel
another-other-requires-clause-channel g c = c.requires.seats.1

pub absorb-requires-clause-channel : goal.absorb-requires-clause-channel
absorb-requires-clause-channel g c = (c.requires.seats.0, c.another-other.ensures.channel.2)

pub learn_as-requires-clause-channel : goal.learn_as-requires-clause-channel
learn_as-requires-clause-channel g c = c.absorb.ensures.channel.0

pub another-requires-clause-channel : goal.another-requires-clause-channel
another-requires-clause-channel g c = c.learn_as.ensures.channel.0

pub returns-clause-seats : goal.returns-clause-seats
returns-clause-seats g c = (c.another.ensures.channel.0, c.another.ensures.channel.2)

pub returns-clause-roles : goal.returns-clause-roles
returns-clause-roles g c =
    let e = c.another.ensures.rule in (
      (ap (λ v. v.puts) e.0, ap (λ v. v.takes) e.0),
      (ap (λ v. v.puts) e.1, ap (λ v. v.takes) e.1),
    )

pub returns-clause-shared : goal.returns-clause-shared
returns-clause-shared g c =
    let v = known_of c.args.input.now in
    let w = known_of c.args.output.now in
    let joined : known_of c.absorb.new.pass ≡ together v w =
    c.absorb.ensures.rule ∙ ap (together v) c.another-other.ensures.rule.1 in
    let kept = c.learn_as.ensures.channel.2 ∙ joined in
    let e = c.another.ensures.rule in
    shares v w _ _ c.learn_as.ensures.rule.0
    (subst (λ k. Totals k c.learn_as.ensures.rule.0) joined c.learn_as.ensures.rule.1)
    (e.0 ∙ ap (λ k. putter k.room k.floor k) kept) (e.1 ∙ ap (λ k. taker k.room k.floor k) kept)
