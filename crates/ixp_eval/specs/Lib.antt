pub mod Answers
pub mod Costs
pub mod Frames
pub mod Indexed
pub mod Machine
pub mod Outcomes
pub mod Places
pub mod Views
