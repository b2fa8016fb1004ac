pub mod Moments
pub mod Machines
pub mod Outcomes
pub mod Shown
pub mod inner
