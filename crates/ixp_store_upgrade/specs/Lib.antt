pub mod Codes
pub mod Upgrades
pub mod Versions
