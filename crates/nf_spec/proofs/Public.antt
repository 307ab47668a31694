-- Lemmas that the crates above cite.
pub mod TotalLemmas
pub mod PassedLimitLemmas
pub mod FaultLemmas
