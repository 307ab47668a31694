-- How the code works, no part of the meaning.
pub mod Orders
pub mod Turning
pub mod Windows
pub mod Walks
