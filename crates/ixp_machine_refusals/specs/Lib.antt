pub mod ByTable
pub mod Changes
pub mod Columns
pub mod Parts
