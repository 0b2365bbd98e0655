pub mod Maps
pub mod Entries
pub mod Growing
pub mod Changes
pub mod Both
pub mod Locals
pub mod Ends
pub mod Named
