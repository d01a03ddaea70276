pub mod Registries
pub mod Tables
pub mod Fates
pub mod Texts
