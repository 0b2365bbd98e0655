pub mod Confined
pub mod Types
pub mod Standing
pub mod Lists
