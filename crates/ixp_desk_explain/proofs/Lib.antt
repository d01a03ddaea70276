pub mod Sharing
mod Families
pub mod Places
mod Reports
