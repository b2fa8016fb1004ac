-- What stands between the definitions and the code.
pub mod Pages
pub mod Books
pub mod Members
