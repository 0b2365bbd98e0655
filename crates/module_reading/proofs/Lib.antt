pub mod Small
pub mod Lists
pub mod Nodes
pub mod Bodies
pub mod Origins
pub mod Meanings
pub mod Declared
