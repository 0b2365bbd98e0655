pub mod Lowered
pub mod Annotated
pub mod Examples
