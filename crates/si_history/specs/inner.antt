-- Devices of proofs.
pub mod Adding
