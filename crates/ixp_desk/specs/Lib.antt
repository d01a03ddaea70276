pub mod Publications
pub mod Works
pub mod Openings
