pub mod Names
pub mod Saving
