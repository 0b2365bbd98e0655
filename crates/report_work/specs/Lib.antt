pub mod Work
pub mod Moves
pub mod Checks
pub mod Expressions
pub mod Found
pub mod Statements
