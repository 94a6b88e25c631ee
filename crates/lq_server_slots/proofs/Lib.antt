-- Read in this order. One subscription: books and their updates, parcels under their rule, then
-- puts, ends, reads. The slots: one slot and all of them; which changes their marks cover; visits
-- of all taken slots; a change that is committed; what a reader does; a subscription that was just
-- made; the world that the slots show.
pub mod UpdateLemmas
pub mod PortLemmas
pub mod PutLemmas
pub mod EndLemmas
pub mod ReadLemmas
pub mod SlotLemmas
pub mod TableLemmas
pub mod MarkLemmas
pub mod TakenLemmas
pub mod CommitLemmas
pub mod SyncLemmas
pub mod ApplyLemmas
pub mod OpenLemmas
pub mod ShownLemmas
pub mod TurnLemmas
pub mod MoveLemmas
pub mod ActLemmas
pub mod TurnRunLemmas
