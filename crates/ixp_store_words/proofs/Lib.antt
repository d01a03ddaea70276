pub mod Gathered
pub mod Sorting
pub mod KeepStorable
pub mod StorableStates
pub mod Subjects
pub mod WordTexts
