pub mod Reports
pub mod Forms
pub mod Kept
pub mod Same
