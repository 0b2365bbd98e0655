pub mod Places
pub mod Homes
pub mod Found
pub mod Folder
