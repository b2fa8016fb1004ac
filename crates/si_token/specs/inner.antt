-- What stands between code and definitions: devices of the proofs, which a reader need not believe.
pub mod Reading
pub mod Laying
pub mod Places
pub mod Literals
pub mod Kept
