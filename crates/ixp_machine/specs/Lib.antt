pub mod Decisions
pub mod Keeping
pub mod Others
pub mod Prepared
pub mod Questions
