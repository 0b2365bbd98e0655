mod Means
mod Lookup
mod Whole
