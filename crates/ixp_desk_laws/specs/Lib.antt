pub mod Calls
pub mod Desks
pub mod Edits
pub mod Links
