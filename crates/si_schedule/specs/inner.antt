-- What stands between the definitions and the code: how far a text was read, and how it goes on.
pub mod Reading
