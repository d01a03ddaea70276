pub mod Answers
pub mod Explained
pub mod Kinds
pub mod Texts
pub mod Troubles
