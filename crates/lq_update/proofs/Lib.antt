-- Read in this order. Update lists: Lists. A set of entries: EntryLemmas, PlaceLemmas,
-- LocationLemmas (in a map). Folding: ToldLemmas and FoldLemmas (one difference), FoldLaws (many
-- changes), FollowLemmas and Taking (what a rebuild refuses, and settled fronts). What a change
-- tells: TouchedLemmas. Changes that tell nothing: PassingOver. Messages of values: ValueLemmas and
-- ValueLaws. Example has books.
pub mod Lists
pub mod ToldLemmas
pub mod TouchedLemmas
pub mod EntryLemmas
pub mod PlaceLemmas
pub mod LocationLemmas
pub mod FoldLemmas
pub mod FoldLaws
pub mod FollowLemmas
pub mod Taking
pub mod PassingOver
pub mod ValueLemmas
pub mod ValueLaws
mod Example
