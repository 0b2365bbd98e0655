pub mod Handing
pub mod Homes
pub mod Imports
pub mod ItemNames
pub mod Outside
pub mod Summary
pub mod Under
