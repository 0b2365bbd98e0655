pub mod Still
pub mod FolderOf
pub mod Parts
pub mod CallRuns
pub mod ReportPlaces
pub mod RunOf
pub mod ReportLaws
pub mod NumberRuns
