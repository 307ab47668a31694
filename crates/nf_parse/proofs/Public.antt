-- Lemmas that the crates above cite.
pub mod WordLemmas
pub mod ProductionLemmas
