-- What stands between code and definitions: devices of the proofs, which a reader need not believe.
pub mod Firsts
pub mod Pieces
pub mod Constants
pub mod Operands
pub mod Asking
