pub mod Leaves
pub mod Literals
pub mod Made
pub mod View
