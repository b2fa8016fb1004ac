pub mod Limits
pub mod Longest
pub mod Parts
pub mod ReadOff
