pub mod Fields
pub mod Lines
pub mod Printing
pub mod Reading
