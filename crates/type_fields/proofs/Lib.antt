pub mod Chain
pub mod ReadingFacts
pub mod FailFacts
pub mod UnionFacts
pub mod FieldFacts
pub mod RowFacts
pub mod SettingFacts
