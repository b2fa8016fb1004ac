pub mod Written
pub mod Equal
pub mod Held
pub mod Objects
