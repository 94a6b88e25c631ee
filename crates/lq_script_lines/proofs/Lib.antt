-- Of runs read LineLemmas, then ProgressLemmas, then RunLemmas; WritingLemmas and ResultLemmas
-- stand alone. Of the program's arguments read CommandWalkLemmas (what clap's walk does with those
-- that ask for something), CommandFaultLemmas (all others are faults), then CommandLineLemmas
-- (what a parse says of them).
pub mod WritingLemmas
pub mod LineLemmas
pub mod ProgressLemmas
pub mod ResultLemmas
pub mod CallLemmas
pub mod RunLemmas
mod CommandWalkLemmas
mod CommandFaultLemmas
mod CommandLineLemmas
