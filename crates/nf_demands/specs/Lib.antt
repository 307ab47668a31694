pub mod Linear
pub mod Keys
pub mod Bounds
pub mod Alone
pub mod Demands
pub mod inner
