pub mod State
pub mod Parts
pub mod Places
pub mod inner
