pub mod SearchLemmas
pub mod MatchingLemmas
pub mod Public
