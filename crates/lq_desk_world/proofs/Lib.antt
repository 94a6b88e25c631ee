-- Read in this order: ListLemmas; SubLemmas and TakenLemmas (one event, one subscription),
-- StepLemmas (the cases of a step, refusals, fair worlds); TurnLemmas; ReadLemmas, RunLemmas,
-- OpeningLemmas and HeadlineLemmas (whole runs). Example has scenarios.
pub mod ListLemmas
pub mod SubLemmas
pub mod TakenLemmas
pub mod StepLemmas
mod Example
pub mod ReadLemmas
pub mod RunLemmas
pub mod OpeningLemmas
pub mod HeadlineLemmas
pub mod TurnLemmas
