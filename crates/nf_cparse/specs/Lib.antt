pub mod Manifests
pub mod Symbols
pub mod Pieces
pub mod Marks
pub mod Lexing
pub mod Grammar
pub mod Reading
pub mod inner
