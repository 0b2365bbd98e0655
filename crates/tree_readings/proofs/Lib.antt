pub mod Starts
pub mod Apart
pub mod Meanings
pub mod Declared
