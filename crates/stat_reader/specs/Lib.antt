pub mod SeenStatements
