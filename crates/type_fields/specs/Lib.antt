pub mod Plain
pub mod Readings
pub mod Unions
pub mod Setting
