pub mod Lines
pub mod Output
pub mod Outcome
pub mod Calls
pub mod Faults
pub mod Progress
pub mod Words
pub mod CommandLine
