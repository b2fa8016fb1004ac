pub mod Schedules
pub mod BadLines
pub mod Laws
pub mod Worked
pub mod inner
