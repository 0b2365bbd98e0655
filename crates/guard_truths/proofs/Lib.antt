pub mod Values
pub mod Conditions
