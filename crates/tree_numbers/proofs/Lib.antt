pub mod Counts
pub mod Counted
pub mod Same
pub mod Layers
pub mod Turns
pub mod Listed
pub mod Spines
pub mod Marking
