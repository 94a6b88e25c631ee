-- The trees that are parts of a query.
use Rattle.std.specs.Prelude.{List, [], Option, Some, None, Vec}
use Rattle.std.specs.declared.alloc.Global.{Global}
use Rattle.lq_predicate_formula.specs.Query.{Query}

abbrev pub trees_in : Option (Vec Query Global) → List Query
trees_in None = []
trees_in (Some trees) = trees.items
