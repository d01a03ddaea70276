pub mod Methods
pub mod Statements
pub mod Views
