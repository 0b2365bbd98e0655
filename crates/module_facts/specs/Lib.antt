pub mod Facts
pub mod Ordered
pub mod Targets
pub mod Touched
pub mod Later
