pub mod Around
pub mod Work
pub mod Moves
pub mod Results
pub mod Listed
pub mod Branches
pub mod Calls
pub mod Tables
