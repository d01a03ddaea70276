pub mod Checks
pub mod Free
pub mod Holders
pub mod Setting
pub mod Uses
