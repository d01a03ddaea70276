pub mod Batching
pub mod Fronts
pub mod Joined
pub mod Keys
pub mod Merging
pub mod Routers
pub mod Brings
pub mod Serials
