-- Read in this order. Lists: ListLemmas. One slot: PutLemmas. All
-- slots: SlotsLemmas, FewLemmas, PassLemmas, CommitLemmas, WatchLemmas, MarkLemmas. A desk shows a
-- world: SlotLemmas and EndLemmas (one subscription), Shown (each event). Turns: RunLemmas,
-- EventLemmas, SlotTurnLemmas, TurnLemmas, ParcelLemmas. What a desk keeps stays as it has to be:
-- Desks.
pub mod ListLemmas
pub mod PutLemmas
pub mod SlotLemmas
pub mod EndLemmas
pub mod Shown
pub mod SlotsLemmas
pub mod FewLemmas
pub mod PassLemmas
pub mod CommitLemmas
pub mod WatchLemmas
pub mod MarkLemmas
pub mod RunLemmas
pub mod EventLemmas
pub mod SlotTurnLemmas
pub mod TurnLemmas
pub mod ParcelLemmas
pub mod Desks
pub mod Crossing
