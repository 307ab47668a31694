mod WorkedLines
pub mod LineFeedLemmas
pub mod CarriageReturnLemmas
pub mod ZipLemmas
pub mod FieldTestLemmas
pub mod LineLemmas
pub mod LastPairLemmas
pub mod PlainTextLemmas
pub mod CellLemmas
pub mod CutLemmas
pub mod CutLineLemmas
pub mod EndedLineLemmas
pub mod TraceLemmas
pub mod StandingLemmas
pub mod EventLemmas
pub mod Public
