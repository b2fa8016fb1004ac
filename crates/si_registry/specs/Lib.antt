pub mod Registers
pub mod RegistryCode
