pub mod SeenProperties
