pub mod Counting
pub mod Firsts
pub mod Serving
pub mod Stretches
pub mod Copies
