pub mod Remembering
pub mod Memory
