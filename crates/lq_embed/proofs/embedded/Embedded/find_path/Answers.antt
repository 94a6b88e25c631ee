use Rattle.std.proofs.Common.{◌≡◌, ◌∙◌, ◌+◌, ℕ, ap, arith, refl, sym, subst, take, drop, inr, Some}
use Rattle.lq_volume.specs.State.{node_in}
use Rattle.lq_embed.specs.Calls.{FindsNode}
use Rattle.lq_embed.specs.PathNames.{names_in, named_request}
use Rattle.lq_embed.specs.SessionState.{SessionState, holds, volume_in}
use Rattle.lq_embed.proofs.PathLemmas.{IsOnWay, found-node, way-next, way-past, way-split}
use Rattle.lq_embed.proofs.embedded.Embedded.find_path.Goals.{then-size-gt0+else-found-ne0, else-size-gt0}
use Rattle.lq_embed.proofs.embedded.Embedded.find_path.Goals as goal

pub returns-then-found-ne0 : goal.returns-then-found-ne0
returns-then-found-ne0 c =
    let way = c.loop-rest.invariant.way in
    let size = c.count_name-size.result in
    let rest = c.loop-rest.rest.now in
    let found = c.find_named-found in
    inr (record {
      names = way.names;
      name = take size rest;
      rest = names_in (drop (size + 1) rest);
      split = way-split size way c.count_name-size.ensures.value c.if-size-gt0.true
          c.count_name-size.ensures.bound;
      folder = c.loop-rest.at;
      leads = way.leads;
      found = found.new.node;
      finds = subst (λ (s : SessionState). FindsNode s (holds found.new.self)
          (named_request c.loop-rest.at (take size rest)) found.result 0 found.new.node)
          c.loop-rest.invariant.stays found.ensures;
      code = c.if-found-ne0.true;
      out = refl;
    })

pub loop-rest-preserved : goal.loop-rest-preserved
loop-rest-preserved c =
    let l = c.loop-rest in
    let way = l.invariant.way in
    let es = (volume_in (holds c.args.self.now)).records in
    let dir = c.args.dir in
    let path = c.args.path.now in
    let size = c.count_name-size.result in
    let name = take size l.rest.now in
    let after = drop (size + 1) l.rest.now in
    let gone : (at : ℕ) → IsOnWay es dir path after at
    → IsOnWay es dir path c.after_name-rest.result.now at =
    λ at. subst (λ bytes. IsOnWay es dir path bytes at) (sym c.after_name-rest.ensures) in
    elim c.if-size-gt0.branch [
      | then-size-gt0+else-found-ne0 w ↦ record {
        stays = ap holds w.self-is ∙ (w.find_named-found.ensures.stays ∙ l.invariant.stays);
        way = gone c.if-size-gt0.at (subst (λ at. IsOnWay es dir path after at) (sym w.at-is)
            (way-next size way c.count_name-size.ensures.value w.if-size-gt0.true
            c.count_name-size.ensures.bound
            (subst (λ (s : SessionState). node_in (volume_in s).records l.at name
            ≡ Some w.find_named-found.new.node) l.invariant.stays
            (found-node l.at name w.find_named-found.ensures w.if-found-ne0.false))));
      }
      | else-size-gt0 w ↦ record {
        stays = ap holds w.self-is ∙ l.invariant.stays;
        way = gone c.if-size-gt0.at (subst (λ at. IsOnWay es dir path after at) (sym w.at-is)
            (way-past size way c.count_name-size.ensures.value
            (omega (arith, w.if-size-gt0.false))));
      }
    ]
