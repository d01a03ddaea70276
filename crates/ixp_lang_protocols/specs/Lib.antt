pub mod Protocols
pub mod Views
