pub mod Public
pub mod PieceLemmas
pub mod FileLemmas
