-- What stands between code and definitions: devices of the proofs, which a reader need not believe.
pub mod Parts
pub mod Requests
pub mod Commands
pub mod Faults
