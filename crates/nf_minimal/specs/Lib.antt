pub mod Minimals
pub mod inner
