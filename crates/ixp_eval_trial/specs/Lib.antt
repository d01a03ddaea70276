pub mod Causes
pub mod Cutting
pub mod Lines
pub mod Readings
pub mod SessionRoutes
pub mod Tables
pub mod Trials
