pub mod Meant
pub mod Faults
