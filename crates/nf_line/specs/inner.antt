-- How the code works, no part of the meaning.
pub mod FieldTexts
pub mod Plain
pub mod Stages
