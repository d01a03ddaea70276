pub mod Fit
pub mod Right
pub mod Texts
