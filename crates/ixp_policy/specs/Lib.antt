pub mod Blackholes
pub mod Reasons
pub mod Import
pub mod Tags
pub mod Export
pub mod Fates
pub mod Views
