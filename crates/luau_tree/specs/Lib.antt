pub mod Position
pub mod Sorted
pub mod Steps
pub mod Tree
pub mod Lists
pub mod Nodes
pub mod Sample
pub mod View
