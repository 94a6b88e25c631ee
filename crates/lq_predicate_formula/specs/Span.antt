-- The numbers that a query compares an attribute with, and what lies on one side of them all.
use Rattle.std.specs.Prelude.{ℕ, ℤ, pos, negsuc, ◌-◌, ◌^◌, ◌≡◌, List, [], ◌++◌, Bool, true, ◌&&◌, ◌||◌, Option, Some, int_lt, if◌then◌else◌}
use Rattle.std.specs.Int.{int_max, int_min}
use Rattle.std.specs.List.{fold}
use Rattle.std.specs.Option.{option_to_list}
use Rattle.std.specs.Str.{bytes_eq}
use Rattle.lq_value.specs.PlainValue.{PlainValue, Number}
use Rattle.lq_value.specs.Compare.{literal_number}
use Rattle.lq_predicate_formula.specs.Query.{Query, Compare, Not, And, Or, Queries, no_more, and_then}
use Rattle.lq_predicate_formula.specs.declared.span.Span.{Span}

-- the numbers in the comparisons of a name, from the left
abbrev mutual
  pub numbers_of : List ℕ → Query → List ℤ
  numbers_of name (Compare attr op literal) =
      if bytes_eq attr name then option_to_list (literal_number literal) else []
  numbers_of name (Not q) = numbers_of name q
  numbers_of name (And qs) = all_numbers name qs
  numbers_of name (Or qs) = all_numbers name qs

  -- the same for each query of a list
  pub all_numbers : List ℕ → Queries → List ℤ
  all_numbers name no_more = []
  all_numbers name (and_then q qs) = numbers_of name q ++ all_numbers name qs

-- the span with these numbers added
abbrev pub widened : Span → List ℤ → Span
widened span numbers = record {
  least = fold int_min span.least numbers;
  greatest = fold int_max span.greatest numbers;
}

-- the span of no number: its least one is the largest that there is
abbrev pub no_span : Span
no_span = record { least = pos (2 ^ 127 - 1); greatest = negsuc (2 ^ 127 - 1) }

-- the least and the greatest number in the comparisons of a name
abbrev pub span_of : List ℕ → Query → Span
span_of name q = widened no_span (numbers_of name q)

-- whether both numbers are below a span, or both are above it
abbrev pub is_outside : Span → ℤ → ℤ → Bool
is_outside span a b =
    (int_lt a span.least && int_lt b span.least)
    || (int_lt span.greatest a && int_lt span.greatest b)

-- both held values are numbers on the same side of a span
pub record StaysBeside (span : Span) (held now : Option PlainValue) : Type 0 where
  pub from : ℤ
  pub to : ℤ
  pub was : held ≡ Some (Number from)
  pub is : now ≡ Some (Number to)
  pub beside : is_outside span from to ≡ true
