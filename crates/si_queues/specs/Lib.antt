pub mod QueueCode
pub mod Lengths
