-- How the code works, no part of the meaning.
pub mod Queues
pub mod Deltas
pub mod Parts
pub mod Numbered
pub mod Rounds
pub mod Evaluations
pub mod Readers
pub mod Beginnings
pub mod Turns
pub mod Running
pub mod Engines
