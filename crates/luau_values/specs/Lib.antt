pub mod Value
pub mod Heap
pub mod Start
pub mod Later
pub mod Grows
pub mod Stands
