-- What stands between code and definitions: devices of the proofs, which a reader need not believe.
pub mod Fronts
pub mod Conditions
pub mod Turns
pub mod Functions
pub mod Clauses
pub mod Silence
pub mod Stores
pub mod Sums
pub mod Foldings
