-- Read in this order. Lists in the order of a number: OrderLemmas. Attributes: AttributeLemmas. The
-- node at each place: NameLemmas; the steps of a put: Puts. Records by rising node: RecordLemmas;
-- the records of a map in order: ByNode; what a walk over a map finds: Finds. The places of the
-- records: PlaceLemmas. The index of places, with a record more, less or altered: IndexLemmas;
-- after a move: IndexMoves; and the folders that have names: IndexFolders. The entries in a folder:
-- Folders. The steps of a walk up, and the path that it makes: Steps, Paths.
pub mod OrderLemmas
pub mod AttributeLemmas
pub mod NameLemmas
pub mod Puts
pub mod RecordLemmas
pub mod ByNode
pub mod Finds
pub mod PlaceLemmas
pub mod IndexLemmas
pub mod IndexMoves
pub mod IndexFolders
pub mod Folders
pub mod Steps
pub mod Paths
