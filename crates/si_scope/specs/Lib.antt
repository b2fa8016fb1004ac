pub mod Faults
pub mod Locals
pub mod Scripts
pub mod inner
