use Rattle.std.proofs.Common.{◌≡◌, ◌∙◌, ◌++◌, true, false, None, ap, refl, arith}
use Rattle.std.specs.Prelude.{map}
use Rattle.std.specs.Option.{option_copied, option_to_list}
use Rattle.std.proofs.lemmas.Bool.Decides.{nat_tests}
use Rattle.lq_update.specs.declared.message.Opcode.TheVariants.{Removed}
use Rattle.lq_update.specs.Updates.{numbered}
use Rattle.lq_update.specs.Touched.{entry_at, told_first, told_last}
use Rattle.lq_update.proofs.TouchedLemmas.{moves_of, told-taken}
use Rattle.lq_update.proofs.matches.Matches.put_joined.Goals as goal
use Rattle.lq_update.proofs.matches.Matches.put_joined.Goals.{in-None, in-Some+in_ok-gone-in-Some+then-node-made, in-Some+in_ok-gone-in-Some+else-node-made}

pub returns-clause-ok : goal.returns-clause-ok
returns-clause-ok c =
    let self = c.args.self.now in
    let made = c.applied-made.result in
    let made_is = c.applied-made.ensures in
    let node_is = ap (λ m. m.node) made_is.value in
    let left_is = c.in_ok-left.ensures.value
    ∙ ap (λ n. entry_at n (option_copied c.args.left)) node_is ∙ c.requires.removed in
    let came_is = c.in_ok-came.ensures.value
    ∙ ap (λ n. entry_at n (option_copied c.args.came)) node_is ∙ c.requires.created in
    let taken = told-taken c.changes_touch_few.ensures self.predicate.now c.args.moved
    self.planned.now.before self.planned.now.change c.args.first_seq made_is.volume made_is.lawful
    (λ r. r.now) c.clobbered.result made.change made.node _ _ (ap (λ m. m.change) made_is.value)
    node_is
    (c.join-removed.ensures.removed ∙ (λ i. told_first c.args.moved (left_is i) (came_is i)))
    (c.join-removed.ensures.last ∙ (λ i. told_last c.args.moved (left_is i) (came_is i)))
    c.clobbered.ensures.node c.clobbered.ensures.entry in
    let told : numbered c.args.first_seq made.change (map (λ e. (Removed, e))
    (option_to_list c.match-clobbered.low.0 ++ option_to_list c.match-clobbered.low.1)
    ++ option_to_list c.join-removed.result.1) ≡ moves_of self.predicate.now c.args.moved
    self.planned.now.before self.planned.now.change c.args.first_seq =
    elim c.match-clobbered.branch [
      | in-None w ↦ rw w.low-is (taken false None (rw w.in-None.is refl) (rw w.in-None.is refl))
      | in-Some+in_ok-gone-in-Some+then-node-made w ↦ rw w.low-is
          (taken true w.in_ok-gone-in-Some.gone (rw w.in-Some.is w.in_ok-gone-in-Some.ensures.value)
          (rw w.in-Some.is (grind (arith, nat_tests, w.if-node-made.true))))
      | in-Some+in_ok-gone-in-Some+else-node-made w ↦ rw w.low-is
          (taken false w.in_ok-gone-in-Some.gone
          (rw w.in-Some.is w.in_ok-gone-in-Some.ensures.value)
          (rw w.in-Some.is (grind (arith, nat_tests, w.if-node-made.false))))
    ] in
    c.put_all.ensures.items ∙ ap (λ told. c.args.messages.now.items ++ told) told
