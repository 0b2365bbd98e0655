pub mod BelowFacts
pub mod CheckingFacts
pub mod ApartFacts
pub mod ApartLaws
pub mod Public
