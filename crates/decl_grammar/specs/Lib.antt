pub mod Declarations
pub mod Files
pub mod ReadFiles
pub mod Laws
pub mod Samples
