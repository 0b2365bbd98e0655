pub mod Places
pub mod Views
pub mod ListLemmas
pub mod SortedLemmas
pub mod PathLemmas
