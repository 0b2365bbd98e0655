pub mod Views
pub mod NormalFacts
pub mod Steps
pub mod Joins
pub mod LeafFacts
pub mod ComplementFacts
pub mod RowFacts
pub mod Walks
