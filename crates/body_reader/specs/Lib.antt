pub mod SeenParameters
