mod DeltaLemmas
mod NumberLemmas
mod CarriedLemmas
mod CountedLemmas
pub mod Public
