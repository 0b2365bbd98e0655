pub mod Literal
pub mod OneNumber
pub mod Calls
pub mod Reports
pub mod Examples
