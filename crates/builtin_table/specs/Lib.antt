pub mod Standard
pub mod Seen
pub mod Paths
