-- How the code works, no part of the meaning.
pub mod Readings
pub mod ManifestParts
pub mod Distinct
pub mod Fitting
pub mod Tokens
pub mod Parsers
pub mod ExpressionReading
pub mod StatementReading
pub mod Picking
pub mod ItemReading
