pub mod FieldLemmas
pub mod NumeralLemmas
pub mod SpellingLemmas
pub mod PlainTextLemmas
