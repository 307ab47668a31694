pub mod Files
pub mod Tells
pub mod Bytes
pub mod Causes
pub mod Memory
pub mod Real
pub mod inner
