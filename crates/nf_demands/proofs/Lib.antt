pub mod PartLemmas
pub mod AloneLemmas
pub mod KeyLemmas
pub mod LawLemmas
pub mod LinearLemmas
pub mod BoundLemmas
pub mod DemandLemmas
