pub mod Results
pub mod Members
pub mod Work
pub mod Levels
pub mod Pools
pub mod Changes
pub mod ProperRows
pub mod inner
