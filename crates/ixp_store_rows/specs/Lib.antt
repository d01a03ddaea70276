pub mod Fills
pub mod Names
pub mod States
