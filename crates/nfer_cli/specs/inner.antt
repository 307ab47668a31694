-- How the code works, no part of the meaning.
pub mod Ended
pub mod Running
pub mod Reading
pub mod Failures
pub mod Specified
pub mod Options
pub mod Commands
