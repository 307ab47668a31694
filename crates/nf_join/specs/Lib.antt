pub mod Joins
pub mod inner
