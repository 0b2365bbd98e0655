pub mod PathOrder
pub mod Trees
