-- ReplyLemmas is that no reply has a float, SubLemmas how many messages a subscription makes.
pub mod ReplyLemmas
pub mod SubLemmas
