pub mod Answers
pub mod Faults
pub mod Gathering
pub mod Keeping
pub mod Opening
pub mod Sorting
pub mod Storing
