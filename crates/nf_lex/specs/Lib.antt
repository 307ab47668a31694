pub mod Bytes
pub mod Words
pub mod Faults
pub mod Division
pub mod Layout
pub mod inner
