pub mod MadeFacts
pub mod NormalFacts
pub mod ContextFacts
pub mod GrowFacts
pub mod DecideFacts
pub mod ListFacts
