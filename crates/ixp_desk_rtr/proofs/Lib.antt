pub mod Shown
pub mod Fresh
pub mod Links
