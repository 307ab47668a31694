-- Lemmas that the crates above cite.
pub mod AscendingLemmas
pub mod TreeLemmas
pub mod EachOnceLemmas
pub mod NameLemmas
pub mod NumberLemmas
pub mod PlanLemmas
pub mod SameIntervalLemmas
pub mod SetLemmas
pub mod WorkedDefinitions
pub mod WrittenNumberLemmas
