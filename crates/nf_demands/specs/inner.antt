-- How the code works, no part of the meaning.
pub mod Collected
