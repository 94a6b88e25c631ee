use Rattle.std.proofs.Common.{◌≡◌, ◌+◌, [], arith, refl, rules, sym, subst, None}
use Rattle.std.proofs.Math.Facts.{to_z-of_z}
use mir.Syntax.{w64}
use mir.Val.{SFits}
use Rattle.lq_volume.specs.State.{State, Record, IsVolume}
use Rattle.lq_volume.specs.Change.{after, refused}
use Rattle.lq_volume.specs.declared.change.Change.TheVariants.{Create, Remove, Move, Write, SetAttr, RemoveAttr}
use Rattle.lq_volume.proofs.Fits.{number-fits, next-fits}
use Rattle.lq_volume.proofs.Keeps.{can-move, free-create}
use Rattle.lq_volume.proofs.volume.Volume.make.Goals as goal
use Rattle.lq_volume.proofs.volume.Volume.make.Goals.{Joined-change, in-Create+in_ok-copy-in-Create+in_ok-add-in-Create, in-Remove, in-Move+in_ok-move_entry-in-Move, in-Write, in-SetAttr+in_ok-set_attr-in-SetAttr, in-RemoveAttr}

pub add-requires-clause-free : goal.add-requires-clause-free
add-requires-clause-free c =
    let may = subst (λ (s : State). refused s c.args.change.now ≡ None)
    (sym c.self.view_is) c.requires.lawful in
    let s : State = record {
      limit = c.self.inside.limit;
      number = c.self.inside.changes;
      next = c.self.inside.next;
      records = c.self.inside.entries;
    } in
    let new : Record = record {
      dir = c.in-Create.dir;
      name = c.in-Create.name;
      kind = c.in-Create.kind;
      size = c.in-Create.size;
      time = c.in-Create.time;
      attrs = [];
    } in
    rw (c.new-record.ensures, c.in_ok-copy-in-Create.ensures.value)
    (free-create s new (rw c.in-Create.is at may))

pub move_entry-requires : goal.move_entry-requires
move_entry-requires c =
    let may = subst (λ (s : State). refused s c.args.change.now ≡ None)
    (sym c.self.view_is) c.requires.lawful in
    rw (c.requires.resolved, c.in-Move.is, ← c.self.view_is)
    (can-move c.records_are_kept.ensures _ _ _ _ _ c.self.invariant (rw c.in-Move.is at may))

-- each change leaves the state that its definition says
stepped : (c : Joined-change) → ◌≡◌ {A = State} (record {
  limit = c.match-change.self-inside.limit;
  number = c.match-change.self-inside.changes + 1;
  next = c.match-change.self-inside.next;
  records = c.match-change.self-inside.entries;
}) (after c.args.self.now c.args.change.now)
stepped c =
    let s : State = record {
      limit = c.self.inside.limit;
      number = c.self.inside.changes;
      next = c.self.inside.next;
      records = c.self.inside.entries;
    } in
    elim c.match-change.branch [
      | in-Create+in_ok-copy-in-Create+in_ok-add-in-Create w ↦
          let fits : SFits w64 w.in-Create.time = search rules in
          rw (
            w.self-inside-is,
            w.in_ok-add-in-Create.ensures.ok,
            w.new-record.ensures,
            w.in_ok-copy-in-Create.ensures.value,
            w.in-Create.is,
            ← c.self.view_is,
            to_z-of_z fits,
          )
          (refl {a = after s (Create w.in-Create.dir w.in-Create.name w.in-Create.kind
          w.in-Create.size w.in-Create.time)})
      | in-Remove w ↦
          rw (w.self-inside-is, w.remove.ensures, w.in-Remove.is, ← c.self.view_is)
          (refl {a = after s (Remove w.in-Remove.node)})
      | in-Move+in_ok-move_entry-in-Move w ↦ rw (
        w.self-inside-is,
        w.in_ok-move_entry-in-Move.ensures.ok,
        c.requires.resolved,
        w.in-Move.is,
        ← c.self.view_is,
      )
          (refl {a = after s (Move w.in-Move.node w.in-Move.dir w.in-Move.name w.in-Move.clobber)})
      | in-Write w ↦
          let fits : SFits w64 w.in-Write.time = search rules in
          rw (
            w.self-inside-is,
            w.write.ensures,
            w.in-Write.is,
            ← c.self.view_is,
            to_z-of_z fits,
          ) (refl {a = after s (Write w.in-Write.node w.in-Write.size w.in-Write.time)})
      | in-SetAttr+in_ok-set_attr-in-SetAttr w ↦ rw (
        w.self-inside-is,
        w.in_ok-set_attr-in-SetAttr.ensures.ok,
        w.in-SetAttr.is,
        ← c.self.view_is,
      )
          (refl {a = after s (SetAttr w.in-SetAttr.node w.in-SetAttr.attr w.in-SetAttr.value)})
      | in-RemoveAttr w ↦
          rw (w.self-inside-is, w.remove_attr.ensures, w.in-RemoveAttr.is, ← c.self.view_is)
          (refl {a = after s (RemoveAttr w.in-RemoveAttr.node w.in-RemoveAttr.attr)})
    ]

pub returns-clause-ok : goal.returns-clause-ok
returns-clause-ok c = stepped (goal.at.returns-clause-ok c).Joined-change

-- and so a volume
pub invariant_of-self-2 : goal.invariant_of-self-2
invariant_of-self-2 c =
    subst IsVolume (sym (stepped (goal.at.invariant_of-self-2 c).Joined-change))
    (c.accepted_changes_keep_trees.ensures _ _ (rw c.self.view_is at c.self.invariant)
    c.requires.lawful)

pub invariant_of-self : goal.invariant_of-self
invariant_of-self c = rw c.in_err-add-in-Create.ensures.err c.self.invariant

pub invariant_of-self-in_err-move_entry-in-Move : goal.invariant_of-self-in_err-move_entry-in-Move
invariant_of-self-in_err-move_entry-in-Move c =
    rw c.in_err-move_entry-in-Move.ensures.err c.self.invariant

pub overflow_add-self : goal.overflow_add-self
overflow_add-self c = next-fits _ c.self.invariant.numbered

-- no change before the last step counts
pub overflow_add-self-2 : goal.overflow_add-self-2
overflow_add-self-2 c =
    let fits = number-fits _ c.self.invariant.numbered in
    grind (arith, fits)

pub returns-clause-value : goal.returns-clause-value
returns-clause-value c = rw c.requires.resolved refl
