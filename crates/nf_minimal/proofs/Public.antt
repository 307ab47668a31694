pub mod CandidateLemmas
