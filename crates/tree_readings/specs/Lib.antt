pub mod Paths
pub mod Apart
pub mod FromTrees
