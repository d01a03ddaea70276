pub mod Ascending
pub mod SessionTexts
pub mod Bounds
