-- Lemmas that crates above cite.
pub mod NameLemmas
pub mod KindLemmas
pub mod FaultLemmas
pub mod QuotedTextLemmas
