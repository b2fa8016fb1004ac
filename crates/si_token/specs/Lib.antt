pub mod Views
pub mod Faults
pub mod Spans
pub mod Rows
pub mod inner
