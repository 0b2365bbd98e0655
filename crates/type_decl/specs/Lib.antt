pub mod Signatures
pub mod Parts
pub mod Tables
pub mod Runs
