pub mod Explanations
pub mod Glass
