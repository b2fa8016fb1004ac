pub mod Legal
pub mod Worlds
pub mod WorldCode
pub mod Marks
pub mod Core
pub mod Rounds
pub mod Reports
pub mod inner
