-- Worked runs: small programs whose runs the laws of this crate compute. Nothing here has to be
-- believed.
pub mod Builders
pub mod Outcome
pub mod CallOfAbs
pub mod Modules
pub mod Loops
pub mod Calls
pub mod Acts
pub mod Operators
