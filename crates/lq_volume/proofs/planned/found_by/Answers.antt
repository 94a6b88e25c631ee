use Rattle.std.proofs.Common.{rules, sym, refl}
use Rattle.lq_volume.proofs.planned.found_by.Goals as goal
use Rattle.lq_volume.proofs.planned.found_by.Goals.{in-Create+in_ok-check_create-in-Create, in-Remove+in_ok-check_remove-in-Remove, in-Write+in_ok-check_write-in-Write, in-SetAttr+in_ok-check_set_attr-in-SetAttr, in-RemoveAttr+in_ok-check_remove_attr-in-RemoveAttr}

pub returns-clause-found : goal.returns-clause-found
returns-clause-found c =
    let s = c.args.volume.now in
    elim c.match-change.branch [
      -- no record has the next node yet
      | in-Create+in_ok-check_create-in-Create w ↦ rw (w.in-Create.is, w.stored-is) (record {
        stored = sym
            (c.records_are_kept.ensures.found.above s.records s.next c.requires.numbered.below);
        other = refl;
        gone = tt;
      })
      | in-Remove+in_ok-check_remove-in-Remove w ↦ search rules
      | in-Write+in_ok-check_write-in-Write w ↦ search rules
      | in-SetAttr+in_ok-check_set_attr-in-SetAttr w ↦ search rules
      | in-RemoveAttr+in_ok-check_remove_attr-in-RemoveAttr w ↦ search rules
    ]
