pub mod Registries
pub mod Scripts
pub mod Sizes
pub mod States
pub mod Tables
