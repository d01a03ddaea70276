pub mod Sessions
pub mod Servers
