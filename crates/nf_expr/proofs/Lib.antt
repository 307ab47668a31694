pub mod TextEqualityLemmas
pub mod KindLemmas
pub mod DepthLemmas
pub mod PlainValueLemmas
