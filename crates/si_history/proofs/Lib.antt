pub mod Adds
pub mod KindNames
pub mod LineEnds
pub mod Worked
