-- Lemmas that the crates above cite.
pub mod LackingLemmas
pub mod LevelLemmas
pub mod ChangeLemmas
pub mod InputLemmas
pub mod PlaceLemmas
pub mod WorkLemmas
pub mod PoolLemmas
pub mod CellLemmas
pub mod EmptyInputLemmas
pub mod ContentLemmas
