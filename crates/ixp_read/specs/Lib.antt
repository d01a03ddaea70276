pub mod Answers
pub mod Causes
pub mod Functions
pub mod Items
pub mod Stops
pub mod Views
