pub mod ApiKeys
pub mod Edits
pub mod Interfaces
pub mod Lists
pub mod Members
pub mod Ports
pub mod Routers
pub mod Tests
