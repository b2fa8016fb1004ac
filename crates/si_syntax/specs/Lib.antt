pub mod Trees
pub mod Modules
