-- What stands between code and definitions: devices of the proofs, which a reader need not believe.
pub mod Track
pub mod Keeps
pub mod Lines
