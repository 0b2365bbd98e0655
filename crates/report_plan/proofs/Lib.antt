mod SetFacts
pub mod EvForms
pub mod FoundForms
pub mod StatForms
pub mod WriteForms
mod Plans
mod ListFacts
mod Loads
mod KindFacts
