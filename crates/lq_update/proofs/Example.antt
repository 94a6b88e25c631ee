-- The definitions compute: a file of 200 bytes comes, moves and goes under `size>100`.
use Rattle.std.proofs.Common.{◌≡◌, [], ◌∷◌, refl, true, false, pos, Some, None}
use Rattle.std.specs.Prelude.{codes}
use Rattle.lq_value.specs.declared.op.Op.TheVariants.{Gt}
use Rattle.lq_value.specs.declared.literal.Literal.TheVariants.{Plain}
use Rattle.lq_value.specs.declared.kind.Kind.TheVariants.{File}
use Rattle.lq_value.specs.declared.value.Value.TheVariants.{Text}
use Rattle.lq_predicate.specs.Query.{Query, Compare}
use Rattle.lq_volume.specs.declared.change.Change.TheVariants.{Create, Remove, Move, Write, SetAttr}
use Rattle.lq_volume.specs.State.{empty_state}
use Rattle.lq_volume.specs.Book.{Book}
use Rattle.lq_update.specs.declared.message.Opcode.TheVariants.{Created, Removed, Moved, ValueChanged}
use Rattle.lq_update.specs.Options.{no_values}
use Rattle.lq_update.specs.Updates.{updates_of}
use Rattle.lq_update.specs.Fold.{folded}

-- the query of the example, `size>100`
large : Query
large = Compare (codes "size") Gt (Plain (codes "100"))

-- the book of the example: a file is created, moved and removed
comes_and_goes : Book
comes_and_goes = record {
  start = empty_state 10;
  changes =
      Create 1 (codes "a") File 200 (pos 0) ∷ Create 1 (codes "b") File 100 (pos 0) ∷ Remove 2 ∷ [];
}

-- it tells that the file came at change 1 and went at change 3
two_messages : updates_of large (no_values false) comes_and_goes 0 3 ≡
    record { seq = 1; change = 1; last = true; op = Created; dir = 1; name = codes "a"; node = 2 }
    ∷ record { seq = 2; change = 3; last = true; op = Removed; dir = 1; name = codes "a"; node = 2 }
    ∷ []
unfolding large comes_and_goes
two_messages = refl

-- a file that gets another name, and one that gets another's: told as moved, or as removed and
-- created
renamed : Book
renamed = record {
  start = empty_state 10;
  changes = Create 1 (codes "a") File 200 (pos 0) ∷ Move 2 1 (codes "b") false ∷ [];
}

-- a book in which a file takes the name and the place of another
clobbers : Book
clobbers = record {
  start = empty_state 10;
  changes = Create 1 (codes "a") File 200 (pos 0)
      ∷ Create 1 (codes "b") File 200 (pos 0) ∷ Move 3 1 (codes "a") true ∷ [];
}

-- where moves are told, another name is one message
moved_message : updates_of large (no_values true) renamed 1 2 ≡
    record {
      seq = 1;
      change = 2;
      last = true;
      op = Moved 1 (codes "a");
      dir = 1;
      name = codes "b";
      node = 2;
    } ∷ []
unfolding large renamed
moved_message = refl

-- where they aren't, it is a removed and a created one
two_in_place : updates_of large (no_values false) renamed 1 2 ≡
    record { seq = 1; change = 2; last = false; op = Removed; dir = 1; name = codes "a"; node = 2 }
    ∷ record { seq = 2; change = 2; last = true; op = Created; dir = 1; name = codes "b"; node = 2 }
    ∷ []
unfolding large renamed
two_in_place = refl

-- the file whose name was taken is told as removed, before the move
moved_with_clobber : updates_of large (no_values true) clobbers 2 3 ≡
    record { seq = 1; change = 3; last = false; op = Removed; dir = 1; name = codes "a"; node = 2 }
    ∷ record {
      seq = 2;
      change = 3;
      last = true;
      op = Moved 1 (codes "b");
      dir = 1;
      name = codes "a";
      node = 3;
    }
    ∷ []
unfolding large clobbers
moved_with_clobber = refl

-- a fold by the move gives the entry its new name
folded_in_place : folded (record { dir = 1; name = codes "a"; node = 2 } ∷ [])
    (updates_of large (no_values true) renamed 1 2)
    ≡ record { dir = 1; name = codes "b"; node = 2 } ∷ []
unfolding large renamed
folded_in_place = refl

-- a file that is written within the result, and then written so small that it leaves; one that gets
-- an attribute that the query doesn't name
written : Book
written = record {
  start = empty_state 10;
  changes = Create 1 (codes "a") File 200 (pos 0) ∷ Write 2 300 (pos 5)
      ∷ SetAttr 2 (codes "status") (Text (codes "new")) ∷ Write 2 50 (pos 6) ∷ [];
}

-- where values are asked for, each change of one within the result is told, and the change that
-- takes the file out of it is told as removed alone
told_within_result :
    updates_of large (record { moved = false; values = true }) written 1 4 ≡
    record {
      seq = 1;
      change = 2;
      last = true;
      op = ValueChanged None;
      dir = 1;
      name = codes "a";
      node = 2;
    }
    ∷ record {
      seq = 2;
      change = 3;
      last = true;
      op = ValueChanged (Some (codes "status"));
      dir = 1;
      name = codes "a";
      node = 2;
    }
    ∷ record { seq = 3; change = 4; last = true; op = Removed; dir = 1; name = codes "a"; node = 2 }
    ∷ []
unfolding large written
told_within_result = refl

-- where they aren't, the last one alone
left_alone : updates_of large (no_values true) written 1 4 ≡
    record { seq = 1; change = 4; last = true; op = Removed; dir = 1; name = codes "a"; node = 2 }
    ∷ []
unfolding large written
left_alone = refl
