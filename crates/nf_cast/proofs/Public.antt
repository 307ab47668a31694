-- Lemmas that the crates above cite.
pub mod WrittenLemmas
pub mod TextLemmas
pub mod PlacedExprLemmas
pub mod PlacedStmtLemmas
