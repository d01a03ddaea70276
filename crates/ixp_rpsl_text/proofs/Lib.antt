pub mod Telling
pub mod OneChain
pub mod OneListing
pub mod HighTexts
pub mod Listed
pub mod Lists
