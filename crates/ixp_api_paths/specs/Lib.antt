pub mod Paths
pub mod Fits
pub mod Serves
pub mod Table
pub mod Kinds
