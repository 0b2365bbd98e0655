mod HeapFacts
mod StartFacts
mod OrderFacts
mod GrowsFacts
mod StandsFacts
pub mod Public
