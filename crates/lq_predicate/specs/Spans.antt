-- The numbers that a predicate compares an entry's size and time with.
use Rattle.std.specs.Prelude.{codes}
use Rattle.lq_predicate_formula.specs.Query.{Query}
use Rattle.lq_predicate_formula.specs.Span.{span_of}
use Rattle.lq_predicate.specs.declared.spans.Spans.{Spans}

-- the spans of `size` and of `last_modified`: a write alters what an entry shows under these two
abbrev pub spans_of : Query → Spans
spans_of q = record {
  sizes = span_of (codes "size") q;
  times = span_of (codes "last_modified") q;
}
