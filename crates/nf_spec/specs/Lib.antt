pub mod Sources
pub mod Specification
pub mod inner
