pub mod Claims
pub mod Own
pub mod Lists
pub mod Made
pub mod Says
pub mod Guards
