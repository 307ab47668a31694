pub mod ListLemmas
pub mod ModulePlaceLemmas
pub mod MarkLemmas
pub mod WalkLemmas
pub mod ReadingLemmas
pub mod ReachLemmas
pub mod UniquenessLemmas
pub mod AnswerLemmas
