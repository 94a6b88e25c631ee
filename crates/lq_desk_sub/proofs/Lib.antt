-- Read in this order: HeldLemmas (its next parcel), PassingLemmas (changes that tell it nothing),
-- WatchLemmas (the changes that may tell it something). Sets of slots: SlotSetLemmas, VisitLemmas.
pub mod HeldLemmas
pub mod PassingLemmas
pub mod WatchLemmas
pub mod SlotSetLemmas
pub mod VisitLemmas
pub mod SlotTableLemmas
