-- How the code works, no part of the meaning.
pub mod Parsers
pub mod Reading
pub mod FileReading
pub mod RuleReading
pub mod Limited
pub mod Lexical
