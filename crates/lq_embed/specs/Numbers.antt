-- The numbers of kinds, operators and types.
use Rattle.std.specs.Prelude.{ℕ, ◌==◌, Option, Some, None, if◌then◌else◌}
use Rattle.lq_value.specs.declared.kind.Kind.{Kind}
use Rattle.lq_value.specs.declared.kind.Kind.TheVariants.{File, Folder}
use Rattle.lq_predicate.specs.declared.stack_op.StackOp.{StackOp}
use Rattle.lq_predicate.specs.declared.stack_op.StackOp.TheVariants as op

-- 0 is a file, 1 a folder
abbrev pub kind_numbered : ℕ → Option Kind
kind_numbered number =
    if number == 0 then Some File
    else if number == 1 then Some Folder
    else None

abbrev pub number_of_kind : Kind → ℕ
number_of_kind File = 0
number_of_kind Folder = 1

-- the operators count from 1
abbrev pub op_numbered : ℕ → Option StackOp
op_numbered number =
    if number == 1 then Some op.Eq
    else if number == 2 then Some op.Ne
    else if number == 3 then Some op.Gt
    else if number == 4 then Some op.Ge
    else if number == 5 then Some op.Lt
    else if number == 6 then Some op.Le
    else if number == 7 then Some op.Contains
    else if number == 8 then Some op.BeginsWith
    else if number == 9 then Some op.EndsWith
    else if number == 10 then Some op.And
    else if number == 11 then Some op.Or
    else if number == 12 then Some op.Not
    else None
