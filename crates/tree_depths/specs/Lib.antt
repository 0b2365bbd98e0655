pub mod Depths
pub mod Samples
