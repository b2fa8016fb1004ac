pub mod Numbers
pub mod Lines
pub mod Schedules
pub mod BadLines
pub mod Unique
pub mod Worked
