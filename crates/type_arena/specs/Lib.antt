pub mod Arena
pub mod Frozen
pub mod Homes
pub mod Meaning
pub mod Shelf
pub mod Store
pub mod Term
