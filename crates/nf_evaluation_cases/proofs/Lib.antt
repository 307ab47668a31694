pub mod FollowerLemmas
pub mod PrintedLemmas
pub mod ReadLemmas
pub mod WideLemmas
