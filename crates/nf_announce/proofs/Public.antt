-- Lemmas that the crates above cite.
pub mod DistinctItemLemmas
pub mod OrderedListLemmas
pub mod AnnouncementOrderLemmas
pub mod LineBackLemmas
