pub mod Later
pub mod Waiting
