pub mod Histories
pub mod Ordering
pub mod Cores
pub mod Unique
pub mod Worlds
pub mod Callers
pub mod Faults
