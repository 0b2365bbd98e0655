pub mod Place
pub mod Moved
pub mod Visible
pub mod Met
