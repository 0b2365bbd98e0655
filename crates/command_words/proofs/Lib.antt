pub mod AllRead
pub mod AllGathered
pub mod Numbers
pub mod Places
