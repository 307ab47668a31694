-- How the code works, no part of the meaning.
pub mod Announcing
pub mod Drilling
pub mod Ends
pub mod Events
pub mod Progress
pub mod Reads
pub mod Spending
