-- How the code works, no part of the meaning.
pub mod Flat
pub mod Places
pub mod Gaps
pub mod Cuts
