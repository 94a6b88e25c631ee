pub mod World
pub mod Events
pub mod Turns
pub mod Runs
pub mod Fair
pub mod Headline
pub mod PassedOn
pub mod Laws
