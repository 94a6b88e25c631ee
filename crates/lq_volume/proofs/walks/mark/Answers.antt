use Rattle.std.proofs.Common.{◌∙◌, sym, subst, arith, ℕ, ◌≡◌, true, length, inl, inr}
use Rattle.std.proofs.lemmas.Bool.Decides.{nat_tests}
use Rattle.std.proofs.lemmas.Bool.{cases_eq}
use Rattle.lq_volume.specs.State.{root, dir_of, climbs}
use Rattle.lq_volume.proofs.WalkLemmas.{climbs-step}
use Rattle.lq_volume.proofs.walks.mark.Goals as goal

pub loop-preserved : goal.loop-preserved
loop-preserved c =
    let step = climbs-step c.records_are_kept.ensures c.args.entries.now c.loop.at
    c.in-Some.record.now c.requires.top c.if-at-eq-ROOT.false (sym c.in-Some.ensures) in
    record {
      settled = λ n h.
          let is = c.in_ok-add.ensures.ok n in
          elim (cases_eq n c.loop.at) [
            | inl same ↦ subst (λ (m : ℕ). climbs (length c.args.entries.now)
                (dir_of c.args.entries.now) root m ≡ true) (sym same) c.loop.invariant.reaches
            | inr differs ↦ c.loop.invariant.settled n (grind (arith, nat_tests))
          ];
      reaches = rw c.dir-at.ensures (sym step ∙ c.loop.invariant.reaches);
    }
