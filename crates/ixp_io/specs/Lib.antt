pub mod Faults
pub mod Plans
pub mod Told
pub mod Tables
