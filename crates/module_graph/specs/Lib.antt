pub mod Names
pub mod Requires
pub mod Fates
pub mod Levels
pub mod Orders
pub mod Search
pub mod Components
pub mod Standing
