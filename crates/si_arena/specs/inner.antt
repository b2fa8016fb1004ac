-- What stands between code and definitions: devices of the proofs, which a reader need not believe.
pub mod Padding
pub mod Words
pub mod Keys
pub mod Changes
pub mod Hashing
