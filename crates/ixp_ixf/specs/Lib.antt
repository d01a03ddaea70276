pub mod Export
pub mod Moments
pub mod Texts
pub mod Views
pub mod Rows
