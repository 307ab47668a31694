pub mod Fields
pub mod Place
pub mod Time
pub mod Value
pub mod inner
