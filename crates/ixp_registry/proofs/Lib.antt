pub mod Counting
pub mod HandleNames
pub mod Placing
pub mod Utf8
