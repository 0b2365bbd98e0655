pub mod Members
pub mod Accepted
pub mod OnePlan
pub mod Quiet
pub mod Placed
pub mod Told
