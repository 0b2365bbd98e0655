pub mod Outcomes
pub mod Nests
