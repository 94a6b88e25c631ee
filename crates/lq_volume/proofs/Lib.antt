-- Read in this order. Records after an edit: RecordLemmas. Walks up, and what keeps the tree:
-- Climbs, Tree; the path of a node: Paths. What each accepted change keeps: Changes, Keeps,
-- Touches; that the numbers fit: Fits; why a move is refused: Rows. A restore: its rows, lists,
-- attributes and walks in FaultLemmas, EntryLists, AttributeLemmas and WalkLemmas; then Restores.
pub mod RecordLemmas
pub mod Climbs
pub mod Tree
pub mod Paths
pub mod Changes
pub mod Keeps
pub mod Touches
pub mod Fits
pub mod Rows
pub mod FaultLemmas
pub mod EntryLists
pub mod AttributeLemmas
pub mod WalkLemmas
pub mod Restores
