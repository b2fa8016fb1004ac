-- What stands between the definitions and the code.
pub mod Steps
