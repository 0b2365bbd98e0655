pub mod Below
pub mod Checking
pub mod Apart
