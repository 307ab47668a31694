mod WorkedTraces
mod WorkOfTraces
pub mod ListLemmas
pub mod Public
pub mod EvaluationLemmas
pub mod HeadLemmas
pub mod EntryLemmas
pub mod ProperValueLemmas
pub mod ProperPoolLemmas
