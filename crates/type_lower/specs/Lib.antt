pub mod Visible
pub mod Log
pub mod Joined
pub mod Made
pub mod Rowed
pub mod Weight
pub mod Parameters
