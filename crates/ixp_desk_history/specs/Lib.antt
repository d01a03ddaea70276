pub mod Turns
pub mod Touches
pub mod Answers
pub mod Legal
pub mod Orders
