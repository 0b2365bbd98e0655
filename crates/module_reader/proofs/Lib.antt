pub mod Depths
pub mod WholeText
pub mod Answered
