pub mod SeenInterpolated
