pub mod MadeLemmas
pub mod FollowLemmas
