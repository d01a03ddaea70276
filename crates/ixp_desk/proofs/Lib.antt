pub mod Views
pub mod HandedOut
pub mod WorkTurns
pub mod Beginning
pub mod Seating
