pub mod Seen
pub mod Depth
pub mod Evaluation
pub mod inner
