pub mod Command
pub mod Given
pub mod Limits
pub mod Rows
