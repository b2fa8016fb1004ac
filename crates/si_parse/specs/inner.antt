-- What stands between code and definitions: devices of the proofs, which a reader need not believe.
pub mod Numbers
pub mod Lookahead
pub mod Lists
pub mod Names
pub mod Expressions
pub mod Unbracketed
pub mod Targets
pub mod Statements
pub mod Blocks
pub mod Handlers
pub mod Lines
pub mod Gives
pub mod Literals
