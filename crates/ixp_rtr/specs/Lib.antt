pub mod Headers
pub mod Batches
pub mod Queries
pub mod Pdus
pub mod Caches
pub mod Changes
pub mod Answers
pub mod Clients
