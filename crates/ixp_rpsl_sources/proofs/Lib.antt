pub mod Passing
pub mod Joining
pub mod Keeping
pub mod Places
pub mod Saying
pub mod Claiming
pub mod Naming
pub mod OneReading
