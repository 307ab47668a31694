-- Lemmas that the crates above cite.
pub mod SumLemmas
pub mod DeltaLemmas
pub mod BalanceLemmas
pub mod PartnerLemmas
