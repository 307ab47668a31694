pub mod ListLemmas
pub mod MapLemmas
pub mod BoolLemmas
pub mod DigitLemmas
