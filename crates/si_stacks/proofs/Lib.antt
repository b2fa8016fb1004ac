pub mod Rows
pub mod FrameParts
pub mod Tops
pub mod BlockParts
pub mod Keeping
pub mod Standing
pub mod Unwinding
