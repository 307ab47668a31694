pub mod Numbers
pub mod Deltas
pub mod inner
