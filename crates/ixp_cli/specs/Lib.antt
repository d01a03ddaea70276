pub mod Ends
pub mod Waits
