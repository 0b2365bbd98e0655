pub mod Analysis
pub mod Statements
pub mod Fit
