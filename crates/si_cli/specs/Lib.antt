pub mod Laws
pub mod Report
pub mod Runs
pub mod Service
pub mod Status
pub mod Words
pub mod inner
