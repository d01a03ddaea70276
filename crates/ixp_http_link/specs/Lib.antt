pub mod Turns
pub mod Links
pub mod Steps
pub mod Whole
pub mod Left
