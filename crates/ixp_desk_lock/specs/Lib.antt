pub mod Sights
pub mod Facts
pub mod Calls
pub mod Given
pub mod Publishing
pub mod Published
pub mod Openings
