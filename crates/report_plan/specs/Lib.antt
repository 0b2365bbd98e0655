pub mod Run
pub mod Weights
pub mod Puts
pub mod Keys
