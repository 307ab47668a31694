-- Lemmas that the crates above cite.
pub mod ValueLemmas
pub mod RunLemmas
pub mod CallLemmas
