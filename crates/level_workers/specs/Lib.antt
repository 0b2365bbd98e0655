pub mod Numbers
pub mod Machine
pub mod Views
pub mod Rule
pub mod Seats
pub mod Outputs
