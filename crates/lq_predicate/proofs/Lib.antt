-- Read in this order. Stacks: FitLemmas, StarredLemmas (a comparison's size, and a pattern that
-- finds a text's characters), StackLemmas. Reading: QuerySizeLemmas, MachineLemmas, EndLemmas,
-- OffsetLemmas, SoFarLemmas, LimitLemmas, ReadLemmas.
pub mod FitLemmas
pub mod StarredLemmas
pub mod StackLemmas
pub mod QuerySizeLemmas
pub mod MachineLemmas
pub mod EndLemmas
pub mod OffsetLemmas
pub mod SoFarLemmas
pub mod LimitLemmas
pub mod ReadLemmas
