pub mod Lists
pub mod OneType
pub mod Repeats
pub mod Steps
