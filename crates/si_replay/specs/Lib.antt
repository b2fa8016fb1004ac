pub mod Replays
pub mod Order
pub mod inner
