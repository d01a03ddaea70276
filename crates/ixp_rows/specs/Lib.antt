pub mod Answers
pub mod Causes
pub mod Dumps
pub mod Gathering
pub mod Groups
pub mod Printing
pub mod Reading
pub mod Texts
