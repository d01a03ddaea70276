pub mod Steps
pub mod AfterRequests
pub mod EditsBuilt
pub mod Equals
pub mod Parts
pub mod SameRequests
pub mod Sizes
