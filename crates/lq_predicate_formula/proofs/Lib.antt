-- Read in this order. The tokens of a text: CountLemmas, CutLemmas, SignLemmas, TokenLemmas. The
-- machine's steps: MoveLemmas. Grammar and machine read the same: CompleteLemmas, SoundLemmas,
-- WordLemmas, ProperLemmas. Faults: StopLemmas, OutlineLemmas, RefusedLemmas, TakenLemmas,
-- StoppedLemmas. Each text has one reading: OneReadingLemmas. What is written reads back:
-- QuotingLemmas, PatternTextLemmas, CanonicalLemmas, RoundLemmas, GoodLemmas. What the writers and
-- counters do, a piece at a time: RawLemmas, WritingLemmas, SourceSizeLemmas. The texts of trees, a
-- piece at a time: PartLemmas, TreeTextLemmas, TreeSizeLemmas. Names and truth: TruthLemmas,
-- SpanLemmas.
pub mod CountLemmas
pub mod CutLemmas
pub mod SignLemmas
pub mod TokenLemmas
pub mod MoveLemmas
pub mod CompleteLemmas
pub mod SoundLemmas
pub mod StopLemmas
pub mod WordLemmas
pub mod OutlineLemmas
pub mod RefusedLemmas
pub mod TakenLemmas
pub mod StoppedLemmas
pub mod QuotingLemmas
pub mod PatternTextLemmas
pub mod CanonicalLemmas
pub mod RoundLemmas
pub mod RawLemmas
pub mod OneReadingLemmas
pub mod ProperLemmas
pub mod GoodLemmas
pub mod WritingLemmas
pub mod SourceSizeLemmas
pub mod PartLemmas
pub mod TreeTextLemmas
pub mod TreeSizeLemmas
pub mod TruthLemmas
pub mod SpanLemmas
