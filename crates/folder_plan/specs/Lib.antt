pub mod Files
pub mod Accepted
pub mod Order
