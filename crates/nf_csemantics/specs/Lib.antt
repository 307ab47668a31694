pub mod States
pub mod Values
pub mod Statements
pub mod Functions
pub mod Emissions
pub mod Events
