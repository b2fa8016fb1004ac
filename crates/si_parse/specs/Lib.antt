pub mod Modules
pub mod inner
