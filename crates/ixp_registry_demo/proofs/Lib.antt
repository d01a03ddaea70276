pub mod Numbering
pub mod Texts
pub mod Places
pub mod Validity
