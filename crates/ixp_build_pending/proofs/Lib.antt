pub mod NameOrder
pub mod Keys
pub mod Room
pub mod Filters
pub mod Noting
pub mod Listing
