pub mod Bare
pub mod FromRules
pub mod LineForms
pub mod Lists
pub mod OneWeight
pub mod Sentences
pub mod ToRules
pub mod Truths
