pub mod SameOnes
pub mod ByForms
pub mod Reporting
pub mod Keeping
