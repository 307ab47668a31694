pub mod Barred
pub mod Judged
pub mod Moves
pub mod Further
pub mod Counts
