pub mod OfTexts
pub mod Examples
