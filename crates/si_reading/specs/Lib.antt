pub mod Taken
pub mod Texts
pub mod Laws
pub mod Worked
pub mod inner
