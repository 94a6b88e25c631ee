-- The first pass begins the rule and is cut into the two ends.
use Rattle.std.proofs.Common.{rules, arith, ◌≡◌, true, false, [], ◌++◌, ap, ◌∙◌, sym}
use Rattle.crossbeam_channel.specs.Claims.{view, IsSeatAt}
use Rattle.crossbeam_channel.specs.Ends.{receives_on}
use Rattle.lq_port.specs.End.{known_of}
use Rattle.lq_port.specs.Port.{known_alone, putter, taker}
use Rattle.lq_port.proofs.PortLemmas.{begins, opens}
use Rattle.lq_port.proofs.EndLemmas.{new_end}
use Rattle.lq_port.proofs.ends.make_at.Goals as goal

pub bounded_with-requires-clause-rule : goal.bounded_with-requires-clause-rule
bounded_with-requires-clause-rule g c = begins g.T.Follows.follows g.T.Follows.no_floor

pub another-other-requires-clause-rule : goal.another-other-requires-clause-rule
another-other-requires-clause-rule g c =
    let e : view c.in_ok-sender.pass ≡ known_alone 0 true true g.T.Follows.no_floor [] [] =
    search rules in
    opens g.T.Follows.follows _ _ g.named.0 g.named.1 (ap (λ v. v.puts) e) (ap (λ v. v.takes) e)
    (λ i. (e i).taken ++ (e i).ahead)

pub invariant_of-result : goal.invariant_of-result
invariant_of-result g c =
    let e : view c.in_ok-sender.pass ≡ known_alone 0 true true g.T.Follows.no_floor [] [] =
    search rules in
    let f : known_of c.another-other.new.pass ≡ known_alone g.named.0 true false g.named.1 [] [] =
    c.another-other.ensures.rule.0 ∙ ap (putter g.named.0 g.named.1) e in
    let n = new_end g.T.Follows.follows _ _ _ _ _ f in (
      c.another-other.ensures.channel.0,
      (ap (λ v. v.puts) f, ap (λ v. v.takes) f),
      sym n.1,
      n.2,
      ap (λ v. v.room) f ∙ search rules,
      rw f (omega arith),
    )

pub invariant_of-result-2 : goal.invariant_of-result-2
invariant_of-result-2 g c =
    let e : view c.in_ok-sender.pass ≡ known_alone 0 true true g.T.Follows.no_floor [] [] =
    search rules in
    let f : known_of c.another-other.result ≡ known_alone g.named.0 false true g.named.1 [] [] =
    c.another-other.ensures.rule.1 ∙ ap (taker g.named.0 g.named.1) e in
    let n = new_end g.T.Follows.follows _ _ _ _ _ f in
    let seat : IsSeatAt (receives_on c.in_ok-sender.receiver) c.another-other.result =
    search rules in
    (seat, (ap (λ v. v.puts) f, ap (λ v. v.takes) f), sym n.0, n.2)
