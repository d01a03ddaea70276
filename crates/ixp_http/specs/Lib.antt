pub mod Contents
pub mod Heads
pub mod Fields
pub mod Messages
pub mod Answers
pub mod Replies
