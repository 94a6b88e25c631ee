use Rattle.std.proofs.Common.{◌≡◌, Err, rules}
use Rattle.lq_volume_entries.specs.Edits.{set_attr}
use Rattle.lq_volume_entries.proofs.ByNode.{by_node-absent, by_node-altered, by_node-same, Rises-by_node}
use Rattle.lq_volume_entries.proofs.records.Records.set_attr.Goals as goal
use Rattle.lq_volume_entries.proofs.records.Records.set_attr.Goals.{in-Some+in_ok-set_attr, in_default}

pub invariant_of-self : goal.invariant_of-self
invariant_of-self c = Rises-by_node _ (c.get_mut.follows.holds c.set_attr.new.self).4

pub returns-in_err-set_attr-clause-err : goal.returns-in_err-set_attr-clause-err
returns-in_err-set_attr-clause-err c =
    let end = c.get_mut.follows.holds c.set_attr.new.self in
    let same = by_node-same _ _ _ _ _ c.in_err-set_attr.ensures.err c.self.invariant end.4
    c.in-Some.ensures.value (λ there n. (end.3 there).0 n) in
    let is : c.from_residual.result ≡ Err c.in_err-set_attr.field-0.0 = search rules in
    rw (is, ← c.self.view_is) same

pub invariant_of-self-2 : goal.invariant_of-self-2
invariant_of-self-2 c = elim c.match-get_mut.branch [
  | in-Some+in_ok-set_attr w ↦ rw w.self-inside-is
      (Rises-by_node _ (c.get_mut.follows.holds w.set_attr.new.self).4)
  | in_default w ↦ rw (w.self-inside-is, c.get_mut.follows.holds-at-none) c.self.invariant
]

pub returns-clause-ok : goal.returns-clause-ok
returns-clause-ok c = elim c.match-get_mut.branch [
  | in-Some+in_ok-set_attr w ↦
      let end = c.get_mut.follows.holds w.set_attr.new.self in
      rw (w.self-inside-is, ← c.self.view_is) (by_node-altered _ _ _ _ _ _
      w.in_ok-set_attr.ensures.ok c.self.invariant end.4 w.in-Some.ensures.value
      (λ there n. (end.3 there).0 n))
  | in_default w ↦ rw (w.self-inside-is, c.get_mut.follows.holds-at-none, ← c.self.view_is)
      (by_node-absent c.self.inside.stored.entries c.args.node (set_attr c.args.attr c.args.value)
      w.in_default.ensures.value)
]
