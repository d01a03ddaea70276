pub mod Details
pub mod Replies
