-- How the code works, no part of the meaning.
pub mod Graph
pub mod Marks
pub mod Reach
