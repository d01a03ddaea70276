pub mod Images
pub mod RouterTexts
pub mod Stores
pub mod Outcomes
