pub mod Pieces
pub mod Streams
pub mod Rows
