pub mod Books
pub mod BookCode
pub mod Sleeping
pub mod Gathers
pub mod inner
