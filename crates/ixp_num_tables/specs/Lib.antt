pub mod Decimals
pub mod Joined
pub mod Sums
pub mod Tables
