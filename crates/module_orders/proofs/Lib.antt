pub mod Plain
pub mod PlainTypes
pub mod PlainValues
pub mod PlainStatements
pub mod Orders
pub mod Walk
pub mod Stands
