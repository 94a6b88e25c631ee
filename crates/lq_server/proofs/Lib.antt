-- Read ParcelLemmas, then SyncLemmas; OwnLemmas, then HeadlineLemmas and LawLemmas; MadeLemmas,
-- then CallLemmas; Crossing stands alone.
pub mod ParcelLemmas
pub mod SyncLemmas
pub mod OwnLemmas
pub mod HeadlineLemmas
pub mod CallLemmas
pub mod MadeLemmas
pub mod Crossing
pub mod LawLemmas
