pub mod Parts
pub mod Addresses
pub mod Sessions
pub mod Answers
