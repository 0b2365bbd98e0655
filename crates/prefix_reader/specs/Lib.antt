pub mod SeenFields
