pub mod Frames
pub mod Extents
pub mod Blocks
pub mod Places
