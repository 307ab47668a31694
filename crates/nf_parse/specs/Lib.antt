pub mod State
pub mod Grammar
pub mod Answers
pub mod Parses
pub mod inner
