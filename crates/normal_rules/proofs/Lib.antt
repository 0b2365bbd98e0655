pub mod Maps
pub mod Forward
pub mod After
pub mod Seen
pub mod Written
pub mod Tables
