pub mod Work
pub mod Sound
pub mod Conditions
pub mod Calls
pub mod Answers
