pub mod Positive
pub mod Carried
pub mod Fewer
pub mod Counted
