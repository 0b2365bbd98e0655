pub mod Splits
pub mod Completions
pub mod Told
pub mod Levels
pub mod Deepest
pub mod TheFault
pub mod NoFault
