-- Read ListLemmas, then PortLemmas, then EndLemmas.
pub mod ListLemmas
pub mod PortLemmas
pub mod EndLemmas
