pub mod NeverHead
pub mod Formed
pub mod Seconds
pub mod LinkTurns
