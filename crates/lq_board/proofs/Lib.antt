-- Read in this order: RollLemmas (who made which change), WordLemmas (the words), ViewLemmas (who
-- sees what), AuthorLemmas (the authors); TokenLemmas (what is known of a token, and a seat that
-- comes back); PlayLemmas, SplitLemmas and PairLemmas (each step keeps the rule).
pub mod RollLemmas
pub mod WordLemmas
pub mod ViewLemmas
pub mod AuthorLemmas
pub mod TokenLemmas
pub mod PlayLemmas
pub mod SplitLemmas
pub mod PairLemmas
