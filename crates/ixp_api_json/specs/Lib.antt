pub mod Fields
pub mod Members
pub mod Rows
pub mod Words
