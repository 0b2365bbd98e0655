pub mod FoundBodies
pub mod BodyFrame
pub mod Params
pub mod BodyCalls
pub mod LiteralForms
pub mod LocalFunctions
