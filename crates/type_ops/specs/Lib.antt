pub mod Places
pub mod Sets
pub mod Comparing
pub mod Joined
pub mod Normalized
pub mod Changed
pub mod Lists
pub mod Met
