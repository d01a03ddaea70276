pub mod Afters
pub mod Columning
pub mod Lookings
pub mod Shifts
pub mod Weighing
pub mod SmallChanges
