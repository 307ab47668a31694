pub mod OftenLemmas
pub mod LeadLemmas
