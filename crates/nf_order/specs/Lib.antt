pub mod Dependence
pub mod inner
