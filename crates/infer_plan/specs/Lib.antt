pub mod Read
pub mod Steps
pub mod Run
pub mod Weights
