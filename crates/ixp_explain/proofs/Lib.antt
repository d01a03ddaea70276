mod Behind
pub mod Telling
