pub mod Rows
pub mod Swapping
pub mod Exchanging
pub mod Asking
