pub mod Apart
pub mod Empty
pub mod KeyTexts
pub mod NamesOnce
pub mod RowsHeld
