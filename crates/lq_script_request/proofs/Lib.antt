-- Read in this order. The fields of a line: FieldsLemmas, ReadingLemmas, LexLemmas, MemberLemmas.
-- What it asks: RequestLemmas, PlainLemmas, NameLemmas, FormulaLemmas.
pub mod FieldsLemmas
pub mod ReadingLemmas
pub mod LexLemmas
pub mod MemberLemmas
pub mod RequestLemmas
pub mod PlainLemmas
pub mod NameLemmas
pub mod FormulaLemmas
