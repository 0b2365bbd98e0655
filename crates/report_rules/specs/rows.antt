-- Worked rows: small modules whose reports the laws of this crate compute. Nothing here has to be believed.
pub mod Builders
pub mod Calls
pub mod Functions
pub mod Types
pub mod Printing
pub mod Writes
pub mod Straight
pub mod Loops
pub mod Wide
pub mod Folders
