pub mod Sources
pub mod Names
pub mod Parts
pub mod Said
pub mod Counting
pub mod Expansions
pub mod Strangers
pub mod Told
