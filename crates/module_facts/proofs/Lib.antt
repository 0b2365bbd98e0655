pub mod Loops
pub mod Touching
pub mod Counting
pub mod Halving
pub mod Signatures
pub mod InOrder
pub mod Forms
pub mod Lasts
