pub mod AskedItems
pub mod ReadValues
pub mod Families
pub mod Listed
pub mod WellFormed
