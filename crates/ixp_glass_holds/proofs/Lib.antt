pub mod Turns
pub mod Rows
pub mod Histories
pub mod LastHolds
pub mod Formed
