pub mod History
pub mod Worked
pub mod inner
