use Rattle.std.proofs.Common.{false, ◌≡◌, ◌++◌, string_bytes}
use Rattle.lq_predicate_formula.specs.Literals.{unescaped}
use Rattle.lq_predicate_formula.proofs.raw.unescape.Given as goal

abbrev pub invariant-loop-c : goal.invariant-loop-c
invariant-loop-c l =
    string_bytes l.text ++ unescaped l.escaped l.c-iterator.rest.now ≡ unescaped false l.raw
