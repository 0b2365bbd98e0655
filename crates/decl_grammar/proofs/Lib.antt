pub mod Options
pub mod Begins
pub mod NamedEnds
pub mod Gathered
pub mod SoundFiles
pub mod CompleteFiles
pub mod FileFamilies
pub mod Computed
