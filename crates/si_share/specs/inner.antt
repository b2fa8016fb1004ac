-- What stands between code and definitions: devices of the proofs, which a reader need not believe.
pub mod Fitting
pub mod Scalars
