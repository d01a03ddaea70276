pub mod Roas
pub mod Routers
pub mod Steps
