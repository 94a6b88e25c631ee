-- Read in this order. Texts: Joining, EscapeLemmas. What whole runs tell readers: HistoryLemmas,
-- EventLemmas, FoldLemmas, TakenLemmas, TellLemmas; of a session TurnLemmas, GoesOnLemmas,
-- SessionLemmas. Replies that wait: WritesLemmas.
pub mod Joining
pub mod EscapeLemmas
pub mod HistoryLemmas
pub mod EventLemmas
pub mod FoldLemmas
pub mod TakenLemmas
pub mod TellLemmas
pub mod TurnLemmas
pub mod GoesOnLemmas
pub mod SessionLemmas
pub mod WritesLemmas
pub mod Crossing
