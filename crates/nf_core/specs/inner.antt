-- How the code works, no part of the meaning.
pub mod Cells
pub mod Collected
pub mod Numbered
pub mod Widths
