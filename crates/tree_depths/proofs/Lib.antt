pub mod Levels
pub mod DeepTypes
pub mod DeepValues
pub mod DeepStatements
pub mod Deepest
pub mod Marked
pub mod SameDepth
