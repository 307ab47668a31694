pub mod Selection
pub mod inner
