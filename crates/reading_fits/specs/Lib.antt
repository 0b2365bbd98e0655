pub mod OfFolder
pub mod FolderAnalysis
pub mod Examples
