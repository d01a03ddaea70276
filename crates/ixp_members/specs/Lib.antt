pub mod Owners
pub mod Statuses
