pub mod TextErrors
pub mod Within
