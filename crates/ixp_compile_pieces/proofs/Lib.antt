pub mod Bodies
pub mod WholeParts
