-- Lemmas that the crates above cite.
pub mod OutcomeLemmas
pub mod ReaderLemmas
pub mod TokenReaderLemmas
pub mod RepeatedReaderLemmas
pub mod TakingReaderLemmas
pub mod LimitLemmas
pub mod PlaceLemmas
