pub mod Exclusions
pub mod inner
