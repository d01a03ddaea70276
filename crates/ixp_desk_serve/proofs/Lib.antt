pub mod Crossing
pub mod Ended
mod Seats
