pub mod ByText
pub mod Explanations
pub mod Rows
