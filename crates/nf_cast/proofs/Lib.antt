pub mod PrefixLemmas
pub mod BookLemmas
pub mod LinkLemmas
pub mod RuleLinkLemmas
pub mod WorkedRules
pub mod Public
