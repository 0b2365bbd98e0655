pub mod Fault
pub mod Names
pub mod Profile
pub mod Reading
pub mod Reason
pub mod Sources
