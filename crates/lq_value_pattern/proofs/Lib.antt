-- Read in this order. Sources: PieceLemmas, WrittenLemmas, ReadingLemmas, ElementLemmas,
-- SourceLemmas, SourceLaws. What fits: PatternLemmas, MatchingLemmas, SeekLemmas, LongLemmas,
-- FlagLemmas, MaskLemmas, StarredLemmas.
pub mod PieceLemmas
pub mod ReadingLemmas
pub mod WrittenLemmas
pub mod ElementLemmas
pub mod SourceLemmas
pub mod SourceLaws
pub mod PatternLemmas
pub mod MatchingLemmas
pub mod StarredLemmas
pub mod SeekLemmas
pub mod LongLemmas
pub mod FlagLemmas
pub mod MaskLemmas
