pub mod Entries
pub mod Pairs
pub mod Plain
pub mod Steps
