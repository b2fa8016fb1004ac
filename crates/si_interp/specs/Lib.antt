pub mod Life
pub mod Course
pub mod Meaning
pub mod View
pub mod Globals
pub mod InterpCode
pub mod inner
