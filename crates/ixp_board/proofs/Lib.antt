pub mod Beginnings
pub mod Entries
pub mod Adding
