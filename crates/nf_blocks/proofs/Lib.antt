mod BlockLemmas
mod ChangeLemmas
mod CutLemmas
mod PartLemmas
mod PlaceLemmas
mod SearchLemmas
pub mod Public
