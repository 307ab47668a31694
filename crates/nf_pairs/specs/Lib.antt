pub mod Deltas
pub mod Partners
pub mod inner
