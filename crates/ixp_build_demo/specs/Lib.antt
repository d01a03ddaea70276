pub mod Builds
pub mod Counts
pub mod Edits
pub mod Sizes
