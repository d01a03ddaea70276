pub mod Answering
pub mod ByText
pub mod Explaining
mod Numbers
pub mod Reports
mod Senders
mod Shapes
mod Wishes
